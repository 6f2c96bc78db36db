use Rattle.std.proofs.Common.{ℕ, ◌-◌, ◌≤◌, List, ◌++◌, length, replicate, sym, ap₂, ◌∙◌, arith, length-take-le}
use Rattle.std.specs.Int.{w64, from_be_bytes}
use Rattle.cells.proofs.Bytes.{packed_bytes, after-zeros}
use Rattle.cells.proofs.Packing.{named}
use Rattle.cells.proofs.code.pack.Goals as goal

abbrev zeros : List ℕ
zeros = replicate 8 0

pub slice_bounds-all-end : goal.slice_bounds-all-end
slice_bounds-all-end c = (named c.args.bytes.now c.requires).few

pub slice_bounds-copy_from_slice-end : goal.slice_bounds-copy_from_slice-end
slice_bounds-copy_from_slice-end c = sym (length-take-le _ zeros (named c.args.bytes.now c.requires).few)

pub copy_from_slice-requires : goal.copy_from_slice-requires
copy_from_slice-requires c = length-take-le _ zeros (named c.args.bytes.now c.requires).few

pub returns : goal.returns
returns c =
    let bs = c.args.bytes.now in
    let few : length bs ≤ 8 = (named bs c.requires).few in
    c.from_be_bytes.ensures
    ∙ ap₂ (λ (xs ys : List ℕ). from_be_bytes w64 (xs ++ ys)) c.copy_from_slice.ensures.after (after-zeros (length bs))
    ∙ packed_bytes bs (8 - length bs) (omega arith)
