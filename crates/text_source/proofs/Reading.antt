-- Lines read into a page, row behind row.
use Rattle.std.proofs.Common.{◌≡◌, ℕ, suc, ◌+◌, ◌*◌, ◌<◌, ◌≤◌, List, [], ◌∷◌, ◌++◌, map, length, take, drop, Ok, Err, Result, sym, refl, ap, ◌∙◌, subst, inl, inr, mul-le-mul_right, suc-mul, append_assoc, arith, length-drop, length-take}
use Rattle.std.proofs.lemmas.List.{take-append-drop, drop-drop, drop_all, map_push}
use Rattle.cells.specs.declared.full.Full.{Full}
use Rattle.lines.specs.declared.reader.Answer.{Answer}
use Rattle.lines.specs.declared.reader.Answer.TheVariants.{Row, End}
use Rattle.lines.specs.declared.reader.LineRefusal.{LineRefusal}
use Rattle.lines.specs.declared.reader.LineRefusal.TheVariants.{Miscounted, Malformed}
use Rattle.lines.specs.Rows.{Read}
use Rattle.lines.specs.Written.{behind}
use Rattle.memory.specs.Rows.{rows_from, put_row}
use Rattle.memory.proofs.Pages.{rows_put}
use Rattle.texts.specs.Items.{good, bad, items}
use Rattle.texts.proofs.Firsts.{next_row, next_refused}
use Rattle.text_source.specs.Fills.{ReadAt, Filled}

pub long_part : (w at : ℕ) (page : List Full) → at + w ≤ length page → length (take w (drop at page)) ≡ w
long_part w at page h = length-take w (drop at page) ∙ omega (arith, length-drop at page)

-- what stood at a place, put there again
pub put_same : (w at : ℕ) (page : List Full) → at + w ≤ length page → put_row page at (take w (drop at page)) ≡ page
put_same w at page h =
    ap (λ n. take at page ++ (take w (drop at page) ++ drop (at + n) page)) (long_part w at page h)
    ∙ ap (λ x. take at page ++ (take w (drop at page) ++ x)) (sym (drop-drop w at page))
    ∙ ap (λ x. take at page ++ x) (take-append-drop w (drop at page))
    ∙ take-append-drop at page

-- the lines so far lie on the page as rows, and the others begin at the cursor
abbrev pub Sofar : ℕ → List ℕ → ℕ → ℕ → ℕ → List Full → Type 0
Sofar w text start cursor n page = items w (drop start text) ≡ map good (rows_from n w page) ++ items w (drop cursor text)

pub sofar_more : (w n start cursor next : ℕ) (text : List ℕ) (page page' : List Full) → n * w + w ≤ length page → Sofar w text start cursor n page → ReadAt w (n * w) text cursor page (Ok Row) page' next → Sofar w text start next (n + 1) page'
sofar_more w n start cursor next text page page' room sofar h =
    let row = h.0 in
    let long = long_part w (n * w) page room in
    let one : items w (drop cursor text) ≡ good row ∷ items w (drop next text) =
    subst (λ k. items k (drop cursor text) ≡ good row ∷ items k (drop next text)) long (next_row text cursor (take w (drop (n * w) page)) row next h.1).0 in
    let rows : rows_from (n + 1) w page' ≡ rows_from n w page ++ row ∷ [] = ap (rows_from (n + 1) w) h.2 ∙ rows_put n w page row h.3 (omega arith) in
    sofar
    ∙ ap (λ is. map good (rows_from n w page) ++ is) one
    ∙ sym (append_assoc (map good (rows_from n w page)) (good row ∷ []) (items w (drop next text)))
    ∙ ap (λ xs. xs ++ items w (drop next text)) (sym (map_push good (rows_from n w page) row))
    ∙ ap (λ rs. map good rs ++ items w (drop next text)) (sym rows)

-- at the end nothing is changed
pub end_same : (w at cursor next : ℕ) (text : List ℕ) (page page' : List Full) → at + w ≤ length page → ReadAt w at text cursor page (Ok End) page' next → (page' ≡ page) × (next ≡ cursor) × (items w (drop cursor text) ≡ [])
end_same w at cursor next text page page' room h =
    (h.2 ∙ ap (put_row page at) h.1.1 ∙ put_same w at page room, h.1.2, ap (items w) (drop_all cursor text h.1.0))

refused_same : (w at cursor next : ℕ) (text : List ℕ) (page : List Full) (e : LineRefusal) (row : List Full) → Read text cursor (take w (drop at page)) (Err e) row next → (row ≡ take w (drop at page)) × (next ≡ cursor) × (cursor < length text)
refused_same w at cursor next text page Miscounted row h = (h.2, h.3, h.0)
refused_same w at cursor next text page Malformed row h = (h.3, h.4, h.0)

-- nor at a bad line
pub bad_same : (w at cursor next : ℕ) (text : List ℕ) (page page' : List Full) (e : LineRefusal) → at + w ≤ length page → ReadAt w at text cursor page (Err e) page' next → (page' ≡ page) × (next ≡ cursor) × (cursor < length text) × (items w (drop cursor text) ≡ bad e ∷ items w (drop (behind text cursor) text))
bad_same w at cursor next text page page' e room h =
    let s = refused_same w at cursor next text page e h.0 h.1 in
    let item = (next_refused text cursor (take w (drop at page)) e h.0 next (behind text cursor) h.1 refl).0 in (
      h.2 ∙ ap (put_row page at) s.0 ∙ put_same w at page room,
      s.1,
      s.2,
      subst (λ k. items k (drop cursor text) ≡ bad e ∷ items k (drop (behind text cursor) text)) (long_part w at page room) item,
    )

-- one of 64 rows has room
pub room : (n w len : ℕ) → n < 64 → 64 * w ≤ len → n * w + w ≤ len
room n w len h l = let m : suc n * w ≤ 64 * w = mul-le-mul_right w h in omega (arith, suc-mul n w)

-- what was read with the columns and the text that a source has now was read with those that it had
pub read_here : (w a b n : ℕ) (text t : List ℕ) (cursor next : ℕ) (page page' : List Full) (q r : Result Answer LineRefusal) → a ≡ w → b ≡ w → t ≡ text → q ≡ r → ReadAt a (n * b) t cursor page q page' next → ReadAt w (n * w) text cursor page r page' next
read_here w a b n text t cursor next page page' q r d e f g h =
    subst (λ x. ReadAt w (n * w) text cursor page x page' next) g (subst (λ x. ReadAt w (n * x) text cursor page q page' next) e (subst (λ x. ReadAt x (n * b) text cursor page q page' next) d (subst (λ x. ReadAt a (n * b) x cursor page q page' next) f h)))

-- a loop that ends with this line
module _ (w n start cursor next : ℕ) (text : List ℕ) (page page' : List Full) where
  unchanged : page' ≡ page → next ≡ cursor → Sofar w text start cursor n page → Sofar w text start next n page'
  unchanged e f sofar = sofar ∙ (λ i. map good (rows_from n w (sym e i)) ++ items w (drop (sym f i) text))

  pub filled_end : n < 64 → n * w + w ≤ length page → Sofar w text start cursor n page → ReadAt w (n * w) text cursor page (Ok End) page' next → Filled w text start next page' (Ok n)
  filled_end few enough sofar h =
      let s = end_same w (n * w) cursor next text page page' enough h in
      (omega arith, unchanged s.0 s.1 sofar, inr (inl (ap (λ m. items w (drop m text)) s.1 ∙ s.2)))

  pub filled_bad : (e : LineRefusal) → n < 64 → 0 < n → n * w + w ≤ length page → Sofar w text start cursor n page → ReadAt w (n * w) text cursor page (Err e) page' next → Filled w text start next page' (Ok n)
  filled_bad e few some enough sofar h =
      let s = bad_same w (n * w) cursor next text page page' e enough h in
      (omega arith, unchanged s.0 s.1 sofar, inr (inr (some, (e, subst (λ m. items w (drop m text) ≡ bad e ∷ items w (drop (behind text m) text)) (sym s.1) s.3))))

  pub first_bad : (e : LineRefusal) → n ≡ 0 → n * w + w ≤ length page → Sofar w text start cursor n page → ReadAt w (n * w) text cursor page (Err e) page' next → Filled w text start next page' (Err e)
  first_bad e none enough sofar h =
      let s = bad_same w (n * w) cursor next text page page' e enough h in
      let all : items w (drop start text) ≡ items w (drop cursor text) = sofar ∙ ap (λ m. map good (rows_from m w page) ++ items w (drop cursor text)) none in
      (omega (arith, s.1, s.2), all ∙ s.3 ∙ ap (λ m. bad e ∷ items w (drop (behind text m) text)) (sym s.1))
