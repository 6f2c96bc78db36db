-- A row written behind the waiting rows, where there is room.
use Rattle.std.proofs.Common.{◌≡◌, ℕ, suc, ◌+◌, ◌*◌, ◌≤◌, Bool, true, false, cond, leb, List, [], ◌∷◌, ◌++◌, length, sym, ap, ◌∙◌, subst, mul-le-mul_right, suc-mul, arith}
use Rattle.std.proofs.lemmas.Bool.{cond-true, le-leb}
use Rattle.memory.specs.Rows.{put_row}
use Rattle.memory.proofs.Pages.{rows_put, length-put_row}
use Rattle.nested_loop.specs.Model.{counted}
use Rattle.probing.specs.Waiting.{Waiting, waiting_of, waiting_rows, appended, HasRoom}

module _ {C : Type 0} (width : ℕ) where
  -- room for more rows is room for fewer
  pub room_less : (n k : ℕ) (w : Waiting C) → k ≤ n → HasRoom width n w → HasRoom width k w
  room_less n k w h r =
      let le : w.count + k ≤ w.count + n = omega arith in
      record { fit = let m : (w.count + k) * width ≤ (w.count + n) * width = mul-le-mul_right width le in omega (arith, r.fit); countable = omega (arith, r.countable) }

  room_one : (w : Waiting C) → HasRoom width 1 w → w.count * width + width ≤ length w.page
  room_one w r =
      let e : w.count + 1 ≡ suc w.count = omega arith in
      omega (arith, suc-mul w.count width, ap (λ n. n * width) e, r.fit)

  appended_is : (row : List C) (w : Waiting C) → HasRoom width 1 w → appended width row w ≡ waiting_of (w.count + 1) (put_row w.page (w.count * width) row)
  appended_is row w r =
      let c : counted (w.count + 1) ≡ w.count + 1 = omega (arith, r.countable) in
      cond-true (leb (w.count * width + width) (length w.page)) (waiting_of (counted (w.count + 1)) (put_row w.page (w.count * width) row)) w (le-leb (w.count * width + width) (length w.page) (room_one w r))
      ∙ ap (λ n. waiting_of n (put_row w.page (w.count * width) row)) c

  pub appended_rows : (row : List C) (w : Waiting C) → length row ≡ width → HasRoom width 1 w → waiting_rows width (appended width row w) ≡ waiting_rows width w ++ row ∷ []
  appended_rows row w e r = ap (waiting_rows width) (appended_is row w r) ∙ rows_put w.count width w.page row e (omega (arith, room_one w r))

  pub appended-room : (row : List C) (w : Waiting C) (more : ℕ) → length row ≡ width → HasRoom width (suc more) w → HasRoom width more (appended width row w)
  appended-room row w more e r =
      let one = room_less (suc more) 1 w (omega arith) r in
      let n : (w.count + 1) + more ≡ w.count + suc more = omega arith in
      let len = length-put_row (w.count * width) w.page row (omega (arith, room_one w one)) in
      let made : HasRoom width more (waiting_of (w.count + 1) (put_row w.page (w.count * width) row)) =
      record { fit = omega (arith, ap (λ k. k * width) n, len, r.fit); countable = omega (arith, r.countable) } in
      subst (HasRoom width more) (sym (appended_is row w one)) made

  -- with or without room, at most one row more is counted
  pub appended_few : (row : List C) (w : Waiting C) → (appended width row w).count ≤ w.count + 1
  appended_few row w = by (leb (w.count * width + width) (length w.page))
    where
      by : (b : Bool) → (cond b (waiting_of (counted (w.count + 1)) (put_row w.page (w.count * width) row)) w).count ≤ w.count + 1
      by true = omega arith
      by false = omega arith
