use Rattle.std.proofs.Common.{ℕ, ◌/◌, ◌%◌, List, get_or, set, ap, ◌∙◌, arith}
use lib.Bits.{bit_or}
use Rattle.std.proofs.lemmas.Nat.{one_shl}
use Rattle.memory.specs.Marks.{bits_of}
use Rattle.memory.proofs.Marking.{bits-marked}
use Rattle.memory.proofs.marks.mark.Goals as goal

pub returns-then-w-words : goal.returns-then-w-words
returns-then-w-words c =
    let ws = c.args.words.now in
    let i = c.args.i in
    let put : ℕ → List ℕ = λ m. set ws (i / 64) (bit_or (get_or ws (i / 64) 0) m) in
    let one = one_shl (i % 64) 64 (omega arith) in
    record { words = ap put one; bits = λ h n. ap (λ m. bits_of n (put m)) one ∙ bits-marked ws i n c.if-w-words.true }
