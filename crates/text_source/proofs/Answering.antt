-- What was read is the first item, and what is answered is that item.
use Rattle.std.proofs.Common.{◌≡◌, ℕ, ◌*◌, ◌<◌, ◌≤◌, List, [], ◌∷◌, ◌++◌, map, length, take, drop, Ok, sym, ap, ◌∙◌, inl, inr, ⊎_elim, arith}
use Rattle.std.proofs.lemmas.Bool.{cases_lt}
use Rattle.std.proofs.lemmas.List.{length-take-le}
use Rattle.cells.specs.declared.full.Full.{Full}
use Rattle.lines.specs.Written.{behind}
use Rattle.memory.specs.Items.{batch}
use Rattle.memory.specs.Rows.{rows_from, cells_of}
use Rattle.memory.proofs.Cuts.{length-rows_from}
use Rattle.memory.proofs.Taken.{cells_rows_from}
use Rattle.sources.specs.Asked.{Taken}
use Rattle.sources.specs.declared.answer.SourceAnswer.TheVariants.{Batch}
use Rattle.texts.specs.Items.{LineItem, good, items}
use Rattle.text_source.specs.Fills.{Stops, Filled}
use Rattle.text_source.specs.Grouped.{grouped}
use Rattle.text_source.proofs.Grouping.{grouped_held, grouped_full, flush_end, flush_bad}

-- rows at the front of the page, as cells
front_cells : (n w : ℕ) (page : List Full) → n * w ≤ length page → take (length (cells_of (rows_from n w page))) page ≡ cells_of (rows_from n w page)
front_cells n w page h =
    let e = cells_rows_from n w page in
    ap (λ x. take (length x) page) e ∙ ap (λ k. take k page) (length-take-le (n * w) page h) ∙ sym e

-- the batch comes first, whatever stopped it
batch_by : (rs : List (List Full)) (is : List LineItem) → length rs ≤ 64 → 0 < length rs → grouped rs is ≡ batch rs ∷ grouped [] is → grouped [] (map good rs ++ is) ≡ batch rs ∷ grouped [] is
batch_by rs is few some stopped =
    ⊎_elim
    (λ less. grouped_held [] rs is (omega (arith, less)) ∙ stopped)
    (λ full. grouped_full [] rs is (omega (arith, full)) some)
    (cases_lt (length rs) 64)

batch_first : (w : ℕ) (text : List ℕ) (at n : ℕ) (rs : List (List Full)) → length rs ≡ n → n ≤ 64 → 0 < n → Stops w text at n → grouped [] (map good rs ++ items w (drop at text)) ≡ batch rs ∷ grouped [] (items w (drop at text))
batch_first w text at n rs l few some (inl h) = grouped_full [] rs (items w (drop at text)) (omega (arith, l, h)) (omega arith)
batch_first w text at n rs l few some (inr (inl h)) =
    batch_by rs (items w (drop at text)) (omega arith) (omega arith) (ap (grouped rs) h ∙ flush_end rs (omega arith) ∙ ap (λ is. batch rs ∷ grouped [] is) (sym h))
batch_first w text at n rs l few some (inr (inr h)) =
    batch_by rs (items w (drop at text)) (omega arith) (omega arith) (ap (grouped rs) h.1.1 ∙ flush_bad rs h.1.0 (items w (drop (behind text at) text)) (omega arith) ∙ ap (λ is. batch rs ∷ grouped [] is) (sym h.1.1))

pub taken_batch : (w : ℕ) (text : List ℕ) (start at : ℕ) (page : List Full) (n : ℕ) → 0 < n → n * w ≤ length page → Filled w text start at page (Ok n) → Taken (grouped [] (items w (drop start text))) (grouped [] (items w (drop at text))) page (Batch n)
taken_batch w text start at page n some enough h =
    let rs = rows_from n w page in
    let long = length-rows_from n w page in
    (rs, ap (grouped []) h.1 ∙ batch_first w text at n rs long h.0 some h.2, sym long, front_cells n w page enough)
