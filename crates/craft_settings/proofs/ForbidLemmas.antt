-- One more name.
use Rattle.std.proofs.Common.{◌≡◌, ◌<◌, ◌^◌, ◌*◌, ◌%◌, ◌≢◌, ℕ, Bool, true, false, ◌||◌, ◌&&◌, ◌==◌, not, max, List, [], Option, Some, None, option_map, refl, arith, nat_eq}
use Rattle.std.proofs.Common.{inl, inr}
use Rattle.std.proofs.Math.Pow.{pow-lt}
use Rattle.std.proofs.lemmas.Bool.{cases_Bool}
use Rattle.std.proofs.lemmas.Bool.Decides.{nat_tests}
use Rattle.std.proofs.lemmas.Nat.Bits.{bit_at_or, bit_at-pow_same, bit_at-pow_other, bit_at-zero}
use Rattle.std.specs.Option.{option_or, option_eq}
use Rattle.std.specs.Int.{bit_at}
use Rattle.std.specs.Int.RustNames.{bit_or}
use Rattle.craft_settings.specs.declared.fault.SettingsFault.{SettingsFault}
use Rattle.craft_settings.specs.Fault.{first_some}
use Rattle.action_table.specs.Table.{number_of}
use Rattle.craft_settings.specs.Names.{with_name, action_of, are_against, bit}

pub with_name-first : (f : List ℕ → Option SettingsFault) (o : Option (List ℕ)) (ns : List (List ℕ)) → first_some f (with_name o ns) ≡ option_or (first_some f (with_name o [])) (first_some f ns)
with_name-first f None ns = refl
with_name-first f (Some name) ns = or_assoc (f name) (first_some f ns)
  where
    or_assoc : (a b : Option SettingsFault) → option_or a b ≡ option_or (option_or a None) b
    or_assoc None b = refl
    or_assoc (Some x) b = refl

bit-or : (a b c : Bool) → bit (a || b) ≡ max (bit (a || false)) (bit b)
bit-or true true c = refl
bit-or true false c = refl
bit-or false true c = refl
bit-or false false c = refl

pub bit-with_name : (two : Bool) (o : Option (List ℕ)) (ns : List (List ℕ)) (n : ℕ) → bit (are_against two (with_name o ns) n) ≡ max (bit (are_against two (with_name o []) n)) (bit (are_against two ns n))
bit-with_name two None ns n = omega arith
bit-with_name two (Some name) ns n = bit-or (option_eq nat_eq (option_map number_of (action_of two name)) (Some n)) (are_against two ns n) true

-- one bit more
pub bit_at-set : (m k n : ℕ) → k < 26 → bit_at (bit_or m (1 * 2 ^ k % 4294967296)) n ≡ max (bit_at m n) (bit (nat_eq k n || false))
bit_at-set m k n small =
    let below : 2 ^ k < 2 ^ 32 = pow-lt {i = k} {j = 32} (omega arith) in
    let power : 1 * 2 ^ k % 4294967296 ≡ 2 ^ k = omega (arith, below) in
    rw (power, bit_at_or m (2 ^ k) n) (elim (cases_Bool (nat_eq k n)) [
      | inl same ↦ let e : k ≡ n = grind (arith, nat_tests) in rw (same, e, bit_at-pow_same n)
      | inr other ↦ let e : n ≢ k = λ h. grind (arith, nat_tests) in rw (other, bit_at-pow_other k n e)
    ])

pub bit_at-start : (allowed : Bool) (n : ℕ) → allowed ≡ false → bit_at 33554432 n ≡ bit ((n == 25) && not allowed)
bit_at-start allowed n off =
    elim (cases_Bool (n == 25)) [
      | inl same ↦ let e : n ≡ 25 = grind (arith, nat_tests) in rw (same, off, e) (bit_at-pow_same 25)
      | inr other ↦ let e : n ≢ 25 = λ h. grind (arith, nat_tests) in rw other (bit_at-pow_other 25 n e)
    ]

pub bit_at-empty : (allowed : Bool) (n : ℕ) → allowed ≡ true → bit_at 0 n ≡ bit ((n == 25) && not allowed)
bit_at-empty allowed n on =
    elim (cases_Bool (n == 25)) [
      | inl same ↦ rw (same, on) (bit_at-zero n)
      | inr other ↦ rw other (bit_at-zero n)
    ]
