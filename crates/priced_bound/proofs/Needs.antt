-- The units of progress that are left, by the points that are done.
use Rattle.std.proofs.Common.{ℕ, List, [], ◌∷◌, ◌++◌, ◌≡◌, ◌≤◌, ◌<◌, ◌+◌, ◌-◌, ◌*◌, ◌/◌, ◌%◌, length, length-append, get_or, ◌∙◌, ap, sym, subst, arith, inl, inr}
use Rattle.std.specs.Int.{div_ceil}
use Rattle.std.proofs.lemmas.Bool.{cases_lt}
use Rattle.std.proofs.lemmas.List.{get_or_append_left, get_or_push}
use Rattle.std.proofs.lemmas.Nat.{div-add-mod', mod_below, mul-le}
use Rattle.craft_settings.specs.Ranges.{SettingsFields}
use Rattle.craft_state.specs.Craft.{StateFields}
use Rattle.priced_moves.specs.declared.kinds.Prices.{Prices}
use Rattle.priced_moves.specs.declared.kinds.Units.{Units}
use Rattle.priced_moves.specs.FirstMoves.{at_need}
use Rattle.priced_moves.specs.Moves.{SeenFields, progress_units, seen_of}
use Rattle.priced_moves.specs.Prices.{raw_worth, worth_of}
use Rattle.priced_moves.proofs.Rounding.{ceiling-more, ceiling-std}
use Rattle.priced_bound.specs.Bounds.{BoundFields}
use Rattle.priced_bound.specs.Reckoned.{ReckoningFields}
use Rattle.priced_bound.specs.Tables.{AreNeeds}
use Rattle.priced_bound.specs.declared.reckoning.TheConstants.{MOST_NEED}

-- those after less points than so many
pub record AreNeedsTo (r : ReckoningFields) (count : ℕ) (needs : List ℕ) : Type 0 where
  pub long : length needs ≡ count
  pub at : (points d : ℕ) → points < count → get_or needs points d ≡ progress_units r.units (r.g.progress - points)

pub no-needs : (r : ReckoningFields) (needs : List ℕ) → needs ≡ [] → AreNeedsTo r 0 needs
no-needs r needs none = record {
  long = ap (λ l. length l) none;
  at = λ points d below. absurd (let x : ⊥ = omega arith in x);
}

pub need-more : (r : ReckoningFields) (count need : ℕ) (needs : List ℕ) → need ≡ progress_units r.units (r.g.progress - count) → AreNeedsTo r count needs → AreNeedsTo r (count + 1) (needs ++ need ∷ [])
need-more r count need needs is to = record {
  long = let sum = length-append needs (need ∷ []) in let long = to.long in omega arith;
  at = λ points d below. elim (cases_lt points count) [
    | inl before ↦ get_or_append_left needs (need ∷ []) d points (let long = to.long in omega arith) ∙ to.at points d before
    | inr after ↦
        let here : length needs ≡ points = let long = to.long in omega arith in
        let at : count ≡ points = omega arith in
        get_or_push needs need d points here ∙ is ∙ ap (λ (n : ℕ). progress_units r.units (r.g.progress - n)) at
  ];
}

pub all-needs : (r : ReckoningFields) (count : ℕ) (needs : List ℕ) → count ≡ r.g.progress + 1 → AreNeedsTo r count needs → AreNeeds r needs
all-needs r count needs all to = record {
  long = to.long ∙ all;
  at = λ points d few. to.at points d (omega arith);
}

-- no more is left than all
pub left-few : (units : Units) (all left : ℕ) → 1 ≤ units.progress → left ≤ all → progress_units units all ≤ MOST_NEED → progress_units units left ≤ MOST_NEED
left-few units all left some less few =
    let more : progress_units units left ≤ progress_units units all =
    ceiling-more (left * units.share) (all * units.share) units.progress some (mul-le left units.share all units.share less (omega arith)) in
    omega arith

pub left_std : (units : Units) (left : ℕ) → 1 ≤ units.progress → div_ceil (left * units.share) units.progress ≡ progress_units units left
left_std units left some = ceiling-std (left * units.share) units.progress some

-- the list has room for the points of a state
pub needs-room : (b : BoundFields) (r : ReckoningFields) (top : ℕ) (needs : List ℕ) (points : ℕ) → record { by = r; top = top } ≡ b → AreNeeds r needs → points ≤ b.by.g.progress → points < length needs
needs-room b r top needs points view are few =
    let within : points ≤ r.g.progress = subst (λ (h : BoundFields). points ≤ h.by.g.progress) (sym view) few in
    let long = are.long in
    omega arith

pub needs-told : (b : BoundFields) (r : ReckoningFields) (top : ℕ) (needs : List ℕ) (points d : ℕ) → record { by = r; top = top } ≡ b → AreNeeds r needs → points ≤ b.by.g.progress →
    get_or needs points d ≡ progress_units b.by.units (b.by.g.progress - points)
needs-told b r top needs points d view are few =
    are.at points d (subst (λ (h : BoundFields). points ≤ h.by.g.progress) (sym view) few)
    ∙ ap (λ (h : BoundFields). progress_units h.by.units (h.by.g.progress - points)) view

-- what is seen with another need that is the same
pub need-as-seen : (g : SettingsFields) (units : Units) (s : StateFields) (x : SeenFields) (need : ℕ) → x ≡ seen_of g units s → need ≡ progress_units units (g.progress - s.progress) → at_need x need ≡ seen_of g units s
unfolding seen_of
need-as-seen g units s x need is same = ap (λ (y : SeenFields). at_need y need) is ∙ ap (λ (n : ℕ). at_need (seen_of g units s) n) same

-- ---- worths, first in parts

div_one : (n : ℕ) → n / 1 ≡ n
div_one n = let whole = div-add-mod' n 1 in let rest : n % 1 < 1 = mod_below n 1 (omega arith) in omega arith

pub worth-parts : (p : Prices) (s : StateFields) (steps : ℕ) → worth_of (record p { coin = 1 }) s steps / p.coin ≡ worth_of p s steps
unfolding worth_of
worth-parts p s steps = ap (λ (n : ℕ). n / p.coin) (div_one (raw_worth p s steps))
