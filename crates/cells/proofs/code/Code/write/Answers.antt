use Rattle.std.proofs.Common.{◌≡◌, ℕ, ◌-◌, eqb, List, ◌++◌, length, take, drop, replicate, sym, ap, ◌∙◌}
use Rattle.std.specs.List.{position_or_len}
use Rattle.std.proofs.lemmas.List.{take_at}
use Rattle.cells.specs.Codes.{letters}
use Rattle.cells.proofs.Packing.{named}
use Rattle.cells.proofs.Bytes.{code_bytes, zero_behind}
use Rattle.cells.proofs.code.Code.write.Goals as goal
use Rattle.cells.proofs.code.Code.write.Goals.{After-filled-count}

counted : (c : After-filled-count) → c.filled-count.result ≡ length (letters c.args.self.bits)
counted c =
    let v = c.args.self.bits in
    c.filled-count.ensures
    ∙ ap (position_or_len (λ b. eqb b 0)) (c.to_be_bytes-all.ensures ∙ code_bytes v c.args.self.named)
    ∙ zero_behind (letters v) (8 - length (letters v)) (named (letters v) c.args.self.named).signs

pub returns-clause-count : goal.returns-clause-count
returns-clause-count c = counted (goal.at.returns-clause-count c).After-filled-count

pub returns-clause-bytes : goal.returns-clause-bytes
returns-clause-bytes c =
    let v = c.args.self.bits in
    let n = c.filled-count.result in
    let front = ap (take n) (c.to_be_bytes-all.ensures ∙ code_bytes v c.args.self.named) ∙ take_at (letters v) (replicate (8 - length (letters v)) 0) n (sym (counted (goal.at.returns-clause-bytes c).After-filled-count)) in
    ap (λ (xs : List ℕ). xs ++ drop n c.args.out.now) (c.copy_from_slice.ensures.after ∙ front)
