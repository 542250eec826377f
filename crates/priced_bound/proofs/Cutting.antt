-- A gain that is cut at a word leaves the quality that counts as it is.
use Rattle.std.proofs.Common.{ℕ, Option, Some, None, ◌≡◌, ◌≤◌, ◌+◌, ◌*◌, min, refl, ◌∙◌, ap, arith, inl, inr}
use Rattle.std.proofs.lemmas.Bool.{cases_lt}
use Rattle.std.proofs.Math.Nat.{mul-le-mul_left}
use Rattle.craft_settings.specs.Ranges.{SettingsFields}
use Rattle.craft_settings.specs.Rules.{cap_of}
use Rattle.craft_state.specs.Craft.{StateFields}
use Rattle.relaxed_moves.specs.Optimum.{capped}
use Rattle.priced_moves.specs.declared.kinds.Units.{Units}
use Rattle.priced_moves.specs.Optimum.{in_points}
use Rattle.priced_graph.specs.Ties.{cut}

cut_sum : (cap q k most n : ℕ) → cap ≤ k * most → min cap (q + k * min most n) ≡ min cap (q + k * n)
cut_sum cap q k most n enough = elim (cases_lt n most) [
  | inl less ↦ let e : min most n ≡ n = omega arith in ap (λ (m : ℕ). min cap (q + k * m)) e
  | inr more ↦
      let e : min most n ≡ most = omega arith in
      let product : k * most ≤ k * n = mul-le-mul_left k more in
      let same : min cap (q + k * most) ≡ min cap (q + k * n) = omega (arith, product, enough) in
      ap (λ (m : ℕ). min cap (q + k * m)) e ∙ same
]

pub capped-cut : (g : SettingsFields) (units : Units) (s : StateFields) (most : ℕ) (o : Option ℕ) → cap_of g ≤ units.quality * most →
    capped g s (in_points units (cut most o)) ≡ capped g s (in_points units o)
capped-cut g units s most None enough = refl
capped-cut g units s most (Some n) enough = ap (λ (m : ℕ). Some m) (cut_sum (cap_of g) s.quality units.quality most n enough)
