-- How long printed numbers are, and what it is to print over the front of a buffer.
use Rattle.std.proofs.Common.{◌≡◌, ℕ, ◌+◌, ◌/◌, ◌%◌, ◌^◌, ◌<◌, ◌≤◌, [], ◌∷◌, length, decimal, ap, ◌∙◌, arith, length-append}
use Rattle.std.proofs.lemmas.Fmt.{decimal_step, length-decimal-le}
use Rattle.answer.specs.Printed.{field}

pub step_length : (n : ℕ) → 10 ≤ n → n < 2 ^ 64 → length (decimal n) ≡ length (decimal (n / 10)) + 1
step_length n h k = ap length (decimal_step n h k) ∙ length-append (decimal (n / 10)) ((48 + n % 10) ∷ [])

pub field_length : (n : ℕ) → n < 2 ^ 64 → length (field n) ≤ 21
field_length n h = omega (arith, length-decimal-le 20 n (omega arith) (omega arith) (omega arith))

pub short : (n : ℕ) → n < 100 → length (decimal n) ≤ 2
short n h = length-decimal-le 2 n (omega arith) (omega arith) (omega arith)
