-- Twelve digits fit, and one digit more is one step of the value.
use Rattle.std.proofs.Common.{ℕ, ◌+◌, ◌-◌, ◌*◌, ◌^◌, ◌<◌, ◌≤◌, ◌&&◌, List, length, get_or, drop, sym, refl, ap, ◌∙◌, pow-suc, add-one, arith}
use native.Mathlib.Nat.{pow-le-pow_right}
use Rattle.std.specs.Str.{all_ascii_digits}
use Rattle.std.proofs.lemmas.List.{take_all, at_drop_all}
use Rattle.std.proofs.lemmas.List.Sums.{fold_more}
use Rattle.lines.specs.Written.{Sized, value}
use Rattle.lines.proofs.Texts.{digits_step, digit_in, not_digits}
use Rattle.lines.proofs.cell.digits.Goals as goal

-- the first i digits of at most 12
room : (t : List ℕ) (i n : ℕ) → Sized t → i ≤ length t → n < 10 ^ i → n < 10 ^ 12
room t i n s h l =
    let few : i ≤ 12 = omega (arith, s.few) in
    let m : 10 ^ i ≤ 10 ^ 12 = pow-le-pow_right (omega arith) few in
    omega arith

pub loop-b-init : goal.loop-b-init
loop-b-init c = (refl, omega arith, refl)

pub overflow_mul-n : goal.overflow_mul-n
overflow_mul-n c = omega (arith, room _ _ _ (c.if-not-sized.ensures.0 refl) c.loop-b.auto.b-index-end c.loop-b.invariant.1)

pub overflow_add-n : goal.overflow_add-n
overflow_add-n c =
    let d = digit_in (get_or c.args.text.now c.loop-b.b-index 0) (sym c.if-not-is_ascii_digit.ensures.value) in
    omega (arith, c.from.ensures, room _ _ _ (c.if-not-sized.ensures.0 refl) c.loop-b.auto.b-index-end c.loop-b.invariant.1)

pub returns-then-not-is_ascii_digit : goal.returns-then-not-is_ascii_digit
returns-then-not-is_ascii_digit c =
    not_digits _ c.loop-b.b-index c.loop-b-test.true (sym c.if-not-is_ascii_digit.ensures.value) c.loop-b.invariant.2

pub loop-b-preserved : goal.loop-b-preserved
loop-b-preserved c =
    let t = c.args.text.now in
    let i = c.loop-b.b-index in
    let d = c.if-not-is_ascii_digit.ensures.value in
    let r = digit_in (get_or t i 0) (sym d) in (
      ap (λ x. c.loop-b.n * 10 + x) c.from.ensures ∙ ap (λ x. x * 10 + (get_or t i 0 - 48)) c.loop-b.invariant.0 ∙ sym (fold_more (λ n d. n * 10 + (d - 48)) 0 t i 0 c.loop-b-test.true),
      omega (arith, pow-suc 10 i, ap (λ x. 10 ^ x) (add-one i)),
      ap (λ x. x && all_ascii_digits (drop (i + 1) t)) d ∙ sym (digits_step t i c.loop-b-test.true) ∙ c.loop-b.invariant.2,
    )

pub returns : goal.returns
returns c =
    let t = c.args.text.now in
    let i = c.loop-b.b-index in
    let s = c.if-not-sized.ensures.0 refl in (
      record { sized = s; digits = sym c.loop-b.invariant.2 ∙ at_drop_all all_ascii_digits t i c.loop-b-test.false },
      ap value (sym (take_all i t c.loop-b-test.false)) ∙ sym c.loop-b.invariant.0,
      room t i c.loop-b.n s c.loop-b.auto.b-index-end c.loop-b.invariant.1,
    )
