-- A usage fits in memory where a list of grades does. Assumes nothing.
use Rattle.std.proofs.Common.{ℕ, ◌+◌, ◌-◌, ◌*◌, ◌%◌, ◌<◌, ◌≤◌, max, sym, subst, arith}
use Rattle.std.proofs.Math.Nat.{mod-lt, mul-le-mul_right}
use mir.Syntax.{Width, w8, w16, w32, w64, w128, Ty}
use mir.Val.{bytes}
use prog.Memory.{size, align, up}
use prog.Align.{align-bytes, align_pos, align_w}

few_bytes : (w : Width) → bytes w ≤ 16
few_bytes w8 = omega arith
few_bytes w16 = omega arith
few_bytes w32 = omega arith
few_bytes w64 = omega arith
few_bytes w128 = omega arith

aligned_low : (τ : Ty) → align τ ≤ 16
aligned_low τ = subst (λ n. n ≤ 16) (sym (align-bytes τ)) (few_bytes (align_w τ))

rounded : (k e : ℕ) → 0 < k → k ≤ 16 → up k e < e + 16
rounded k e some few = let less = mod-lt (k - e % k) some in omega (arith, less)

-- 32 places for grades, as one value, where a list has 256 of them
pub usage_fits : (τ : Ty) (n : ℕ) → n * size τ < 9223372036854775808 → 256 ≤ n → up (max (align τ) 1) (up (align τ) 0 + 32 * size τ) < 9223372036854775808
usage_fits τ n room long =
    let low = aligned_low τ in
    let first = rounded (align τ) 0 (align_pos τ) low in
    let whole = rounded (max (align τ) 1) (up (align τ) 0 + 32 * size τ) (omega arith) (omega (arith, low)) in
    let least = mul-le-mul_right (size τ) long in
    omega (arith, first, whole, least, room)
