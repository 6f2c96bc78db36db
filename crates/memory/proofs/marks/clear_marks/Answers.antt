use Rattle.std.proofs.Common.{◌≡◌, length, replicate, ap, ◌∙◌}
use Rattle.memory.specs.Marks.{bits_of}
use Rattle.memory.proofs.Marking.{bits_clear}
use Rattle.memory.proofs.marks.clear_marks.Goals as goal

pub returns : goal.returns
returns c =
    let k = length c.args.words.now in
    let all : c.fill.new.self ≡ replicate k 0 = c.fill.ensures.after (λ y e. e) in
    record { words = all; bits = λ n. ap (bits_of n) all ∙ bits_clear k n }
