-- A number that is written with a width stands right-aligned.
use Rattle.std.proofs.Common.{◌≡◌, ℕ, zero, suc, ◌-◌, List, [], ◌∷◌, ◌++◌, append-nil, length, false, refl, ap}
use Rattle.std.proofs.Math.Nat.{sub_self, sub-zero}
use Rattle.std.specs.Prelude.{replicate}
use Rattle.std.specs.Char.{encode_utf8}
use Rattle.std.specs.List.{repeat}
use Rattle.std.specs.Fmt.{char_count, format_spec, padded_integral}
use Rattle.hp_text.specs.Zones.{aligned}

-- one byte, so many times
repeat_one : (n byte : ℕ) → repeat n (byte ∷ []) ≡ replicate n byte
repeat_one zero byte = refl
repeat_one (suc n) byte = ap (λ (bytes : List ℕ). byte ∷ bytes) (repeat_one n byte)

-- the padding all stands in front
all_before : (padding : ℕ) (numeral : List ℕ)
    → repeat (padding - 0 - 0) (32 ∷ []) ++ [] ++ [] ++ []
    ++ (numeral ++ repeat (padding - 0 - 0 - (padding - 0 - 0)) (32 ∷ [])) ≡ replicate padding 32 ++ numeral
all_before padding numeral = simp (sub-zero, sub_self, repeat_one, append-nil)

-- spaces in front, up to six places
pub numeral_aligned : (numeral : List ℕ)
    → padded_integral (format_spec 32 3 0 6 18446744073709551615) false [] numeral ≡ aligned 6 numeral
unfolding padded_integral char_count encode_utf8
numeral_aligned numeral = all_before (6 - length numeral) numeral
