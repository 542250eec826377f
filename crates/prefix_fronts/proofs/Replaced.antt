-- A list is worse than the same list with one of its prefixes replaced by one that dominates it.
use Rattle.std.proofs.Common.{◌≡◌, ◌∙◌, sym, ℕ, ◌+◌, ◌≤◌, true, ◌&&◌, ◌||◌, ◌==◌, nat_lt, inl, inr, List, ◌++◌, length, length-append, Some, arith, ap}
use Rattle.action_table.specs.declared.action.Action.{Action}
use Rattle.craft_state.specs.Craft.{StateFields}
use Rattle.craft_settings.specs.Ranges.{SettingsFields}
use Rattle.step_rules.specs.Legality.{is_complete}
use Rattle.step_rules.specs.Run.{run_of}
use Rattle.step_rules.specs.Macro.{counted}
use Rattle.macro_order.specs.declared.scores.Score.{Score}
use Rattle.macro_order.specs.Order.{seconds_of, is_better, precedes}
use Rattle.macro_order.proofs.Continuation.{seconds_of-append}
use Rattle.prefix_fronts.specs.Prefix.{Prefix, dominates}
use Rattle.plain_lemmas.proofs.Tests.{and_both}
use Rattle.prefix_fronts.proofs.Dominance.{IsNotLess-dominates}
use Rattle.prefix_fronts.proofs.Members.{IsPrefixAt}
use Rattle.prefix_fronts.proofs.Best.{counted_le, better_quality, better_sooner, at_most}
use Rattle.prefix_fronts.proofs.Dominated.{runs-not_less, precedes-append, sooner_still}

-- the score of a list that ends in a state
abbrev pub ends_with : SettingsFields → List Action → StateFields → Score
ends_with g n last = record { quality = counted g last; steps = length n; seconds = seconds_of n }

-- the rest of a list completes after a prefix too, and makes a better list
pub record Better (g : SettingsFields) (q : Prefix) (n r : List Action) (last : StateFields) : Type 0 where
  pub end : StateFields
  pub ran : run_of g q.state r ≡ Some end
  pub full : is_complete g end ≡ true
  pub better : is_better (ends_with g (q.actions ++ r) end) (q.actions ++ r) (ends_with g n last) n ≡ true

pub replaced-better : (g : SettingsFields) (s : StateFields) (k : ℕ) (p q : Prefix) (r : List Action) (last : StateFields) → IsPrefixAt g s k p → IsPrefixAt g s k q → dominates q p ≡ true →
    run_of g p.state r ≡ Some last → is_complete g last ≡ true → Better g q (p.actions ++ r) r last
unfolding dominates
replaced-better g s k p q r last fp fq h runs full =
    let other = runs-not_less g q.state p.state r last (IsNotLess-dominates q p h) runs full in
    let more : counted g last ≤ counted g other.last = counted_le g last other.last other.quality in
    let steps : length (q.actions ++ r) ≡ length (p.actions ++ r) = omega (arith, length-append q.actions r, length-append p.actions r, fp.length, fq.length) in
    let took : seconds_of (q.actions ++ r) ≡ q.seconds + seconds_of r = seconds_of-append q.actions r ∙ ap (λ s. s + seconds_of r) (sym fq.seconds) in
    let took_other : seconds_of (p.actions ++ r) ≡ p.seconds + seconds_of r = seconds_of-append p.actions r ∙ ap (λ s. s + seconds_of r) (sym fp.seconds) in
    let still = sooner_still q.seconds p.seconds (seconds_of r) (precedes q.actions p.actions) (precedes (q.actions ++ r) (p.actions ++ r)) (precedes-append q.actions p.actions r) (and_both _ _ h).1 in
    let sooner : (nat_lt (seconds_of (q.actions ++ r)) (seconds_of (p.actions ++ r)) || (seconds_of (q.actions ++ r) == seconds_of (p.actions ++ r) && precedes (q.actions ++ r) (p.actions ++ r))) ≡ true =
    rw (took, took_other) still in
    record {
      end = other.last;
      ran = other.ran;
      full = other.full;
      better = elim (at_most (counted g last) (counted g other.last) more) [
        | inl less ↦ better_quality (counted g other.last) (counted g last) _ less
        | inr same ↦ better_sooner _ _ _ _ _ (sym same) steps sooner
      ];
    }
