use Rattle.std.proofs.Common.{◌≡◌, ℕ, ◌+◌, ◌-◌, ◌*◌, ◌/◌, ◌%◌, ◌^◌, ◌<◌, ◌≤◌, subst, mul_comm, arith, pow_mono, pow-add}
use native.Mathlib.Nat.{mul-sub}
use lib.Bits.{bit_and}
use Rattle.std.proofs.lemmas.Nat.{and_mask, shr_high, pow_pos}
use Rattle.clause.specs.Words.{upto}
use Rattle.session.proofs.search.low_atoms.Goals as goal

mask : (v h : ℕ) → h ≤ 64 → bit_and v (18446744073709551615 / 2 ^ (64 - h)) ≡ v % 2 ^ h
mask v h le =
    let k = 64 - h in
    let s : h + (64 - h) ≡ 64 = omega arith in
    let p : 2 ^ 64 ≡ 2 ^ h * 2 ^ (64 - h) = let P : ℕ → Type 0 = λ n. 2 ^ n ≡ 2 ^ h * 2 ^ (64 - h) in subst P s (pow-add 2 h (64 - h)) in
    let a : 0 < 2 ^ h = pow_pos h in
    let b : 0 < 2 ^ (64 - h) = pow_pos (64 - h) in
    let l : 64 - h ≤ 64 = omega arith in
    let m : 2 ^ (64 - h) ≤ 2 ^ 64 = pow_mono l in
    let e : 18446744073709551615 ≡ (2 ^ h - 1) * 2 ^ (64 - h) + (2 ^ (64 - h) - 1) = omega (arith, mul-sub (2 ^ (64 - h)) (2 ^ h) 1, mul_comm (2 ^ (64 - h)) (2 ^ h - 1), mul_comm (2 ^ (64 - h)) (2 ^ h)) in
    let q : 18446744073709551615 / 2 ^ (64 - h) ≡ 2 ^ h - 1 = rw e (shr_high (2 ^ h - 1) (64 - h) (2 ^ (64 - h) - 1) (omega arith)) in
    rw q (and_mask v h)

none_below : (v h : ℕ) → h ≡ 0 → 0 ≡ upto v h
unfolding upto
none_below v h e = rw e (omega arith)

pub returns-then-highest-eq0 : goal.returns-then-highest-eq0
returns-then-highest-eq0 c = none_below c.args.word c.args.highest (omega arith)

pub returns : goal.returns
unfolding upto
returns c = mask c.args.word c.args.highest (omega arith)
