-- The tables of a search are tables of its craft.
use Rattle.std.proofs.Common.{ℕ, Bool, true, false, List, [], ◌∷◌, ◌++◌, ◌≡◌, ◌∙◌, ◌&&◌, refl, ap, sym, subst}
use Rattle.std.specs.List.{All}
use Rattle.std.proofs.lemmas.List.Elements.{All-append, All-head, All-nil, All-push, All-tail}
use Rattle.craft_state.specs.Craft.{StateFields}
use Rattle.craft_settings.specs.Ranges.{SettingsFields}
use Rattle.step_rules.specs.Legality.{IsWithin}
use Rattle.prefix_fronts.specs.Prefix.{AreLimits, IsGreatestFrom, IsOpen}
use Rattle.priced_bound.specs.Bounds.{BoundFields, IsWithinEach, AreTablesOf, all_pass, passes}
use Rattle.priced_bound.proofs.Told.{bounds-limits}
use Rattle.priced_bound.specs.Reckoned.{AreReckoned, ReckoningFields}
use Rattle.best_search.specs.Looking.{IsTable, test_of}
use Rattle.best_search.proofs.Taking.{IsSought}

pub tables-of : (g : SettingsFields) (bounds : List BoundFields) → All (IsTable g) bounds → AreTablesOf g bounds
tables-of g [] of = tt
tables-of g (b ∷ rest) of =
    let first = All-head (IsTable g) b rest of in
    ((first.craft, first.reckoned), tables-of g rest (All-tail (IsTable g) b rest of))

pub within-each : (g : SettingsFields) (bounds : List BoundFields) (s : StateFields) → All (IsTable g) bounds → IsWithin g s → IsWithinEach bounds s
within-each g [] s of within = tt
within-each g (b ∷ rest) s of within = (
  subst (λ (h : SettingsFields). IsWithin h s) (sym (All-head (IsTable g) b rest of).craft) within,
  within-each g rest s (All-tail (IsTable g) b rest of) within,
)

pub limits-of : (g : SettingsFields) (target : ℕ) (these those : List BoundFields) → All (IsTable g) these → All (IsTable g) those → AreLimits g target (test_of target these those)
limits-of g target these those of also =
    bounds-limits g (these ++ those) target (tables-of g (these ++ those) (All-append (IsTable g) these those of also))

pub sought : (g : SettingsFields) (s : StateFields) (target : ℕ) (these those : List BoundFields) → IsOpen g s → IsGreatestFrom g s target → All (IsTable g) these → All (IsTable g) those →
    IsSought g s target (test_of target these those)
sought g s target these those open_state greatest of also = record {
  is_open = open_state;
  limits = limits-of g target these those of also;
  greatest = greatest;
}

and_more : (a b c : Bool) → (a && (b && c)) ≡ ((a && b) && c)
and_more true b c = refl
and_more false b c = refl

all_pass-append : (these those : List BoundFields) (target left : ℕ) (s : StateFields) → all_pass (these ++ those) target left s ≡ (all_pass these target left s && all_pass those target left s)
all_pass-append [] those target left s = refl
all_pass-append (b ∷ rest) those target left s =
    ap (λ (x : Bool). passes b target left s && x) (all_pass-append rest those target left s)
    ∙ and_more (passes b target left s) (all_pass rest target left s) (all_pass those target left s)

-- where these tables let a state through, those decide
pub those-decide : (these those : List BoundFields) (target left : ℕ) (s : StateFields) (a b : Bool) → a ≡ all_pass these target left s → a ≡ true → b ≡ all_pass those target left s → b ≡ test_of target these those left s
those-decide these those target left s a b is through other =
    other ∙ ap (λ (x : Bool). x && all_pass those target left s) (sym through ∙ is) ∙ sym (all_pass-append these those target left s)

-- where these tables don't let a state through, it doesn't pass
pub these-refuse : (these those : List BoundFields) (target left : ℕ) (s : StateFields) (a : Bool) → a ≡ all_pass these target left s → a ≡ false → a ≡ test_of target these those left s
these-refuse these those target left s a is refused =
    refused ∙ ap (λ (x : Bool). x && all_pass those target left s) (sym refused ∙ is) ∙ sym (all_pass-append these those target left s)

pub one-table : (g : SettingsFields) (b : BoundFields) (tables : List BoundFields) → IsTable g b → tables ≡ b ∷ [] → All (IsTable g) tables
one-table g b tables of is = subst (λ (bs : List BoundFields). All (IsTable g) bs) (sym is) (All-push (IsTable g) [] b (All-nil (IsTable g)) of)

pub is-table : (g : SettingsFields) (r : ReckoningFields) (b : BoundFields) → AreReckoned r → r.g ≡ g → b.by ≡ r → IsTable g b
is-table g r b are craft by = record {
  craft = ap (λ (x : ReckoningFields). x.g) by ∙ craft;
  reckoned = subst AreReckoned (sym by) are;
}

-- one table more
pub tables-more : (g : SettingsFields) (bs all : List BoundFields) (b : BoundFields) → All (IsTable g) bs → IsTable g b → all ≡ bs ++ b ∷ [] → All (IsTable g) all
tables-more g bs all b of one is = subst (λ (xs : List BoundFields). All (IsTable g) xs) (sym is) (All-push (IsTable g) bs b of one)
