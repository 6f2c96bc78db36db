-- The first item of grouped lines.
use Rattle.std.proofs.Common.{◌≡◌, ◌+◌, ◌<◌, List, [], ◌∷◌, ◌++◌, map, length, sym, refl, ap, ◌∙◌, append_assoc, append-nil, arith}
use Rattle.std.proofs.lemmas.List.{length_push}
use Rattle.std.proofs.lemmas.Bool.{cond-true, cond-false, lt-ltb, le-ltb}
use Rattle.cells.specs.declared.full.Full.{Full}
use Rattle.lines.specs.declared.reader.LineRefusal.{LineRefusal}
use Rattle.memory.specs.Items.{batch}
use Rattle.texts.specs.Items.{LineItem, good, bad}
use Rattle.text_source.specs.Grouped.{grouped}

-- good lines are held
pub grouped_held : (held rs : List (List Full)) (is : List LineItem) → length held + length rs < 64 → grouped held (map good rs ++ is) ≡ grouped (held ++ rs) is
grouped_held held [] is h = ap (λ x. grouped x is) (sym (append-nil held))
grouped_held held (r ∷ rs) is h =
    cond-true _ _ _ (lt-ltb (length held + 1) 64 (omega arith))
    ∙ grouped_held (held ++ r ∷ []) rs is (omega (arith, length_push held r))
    ∙ ap (λ x. grouped x is) (append_assoc held (r ∷ []) rs)

-- up to the 64th
pub grouped_full : (held rs : List (List Full)) (is : List LineItem) → length held + length rs ≡ 64 → 0 < length rs → grouped held (map good rs ++ is) ≡ batch (held ++ rs) ∷ grouped [] is
grouped_full held [] is h some = absurd (omega arith)
grouped_full held (r ∷ []) is h some = cond-false _ _ _ (le-ltb (length held + 1) 64 (omega arith))
grouped_full held (r ∷ s ∷ rs) is h some =
    cond-true _ _ _ (lt-ltb (length held + 1) 64 (omega arith))
    ∙ grouped_full (held ++ r ∷ []) (s ∷ rs) is (omega (arith, length_push held r)) (omega arith)
    ∙ ap (λ x. batch x ∷ grouped [] is) (append_assoc held (r ∷ []) (s ∷ rs))

pub flush_end : (rs : List (List Full)) → 0 < length rs → grouped rs [] ≡ batch rs ∷ grouped [] []
flush_end [] h = absurd (omega arith)
flush_end (r ∷ rs) h = refl

pub flush_bad : (rs : List (List Full)) (e : LineRefusal) (is : List LineItem) → 0 < length rs → grouped rs (bad e ∷ is) ≡ batch rs ∷ grouped [] (bad e ∷ is)
flush_bad [] e is h = absurd (omega arith)
flush_bad (r ∷ rs) e is h = refl
