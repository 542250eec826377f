-- What rows of verdicts say of each action, and of the kept prefixes of the next level.
use Rattle.std.proofs.Common.{◌≡◌, sym, ℕ, zero, suc, Bool, true, false, ◌⊎◌, inl, inr, List, [], ◌∷◌, Some, refl, subst, slice_get, if◌then◌else◌}
use Rattle.action_table.specs.declared.action.Action.{Action}
use Rattle.action_table.specs.Table.{all_actions}
use Rattle.craft_state.specs.Craft.{StateFields}
use Rattle.craft_settings.specs.Ranges.{SettingsFields}
use Rattle.step_rules.specs.Legality.{start_of, is_legal, is_over}
use Rattle.prefix_fronts.specs.Prefix.{Prefix, extend}
use Rattle.plain_lemmas.proofs.Lists.{Among, Among-append_left, Among-append_right, Among-append_cases, Among-filter, filter-Among}
use Rattle.prefix_fronts.proofs.Members.{Among-all_actions, IsPrefixAt, prefix-next}
use Rattle.prefix_fronts.proofs.Dominance.{goes_on-by}
use Rattle.certificate_text.specs.declared.verdict.Verdict.{Verdict}
use Rattle.certificate_text.specs.declared.verdict.Verdict.TheVariants.{Complete, Failed, Limited, Late, Dominated, Kept}
use Rattle.certificate_laws.specs.Claims.{Claim, Holds, legal_at, legal_after, RowHolds, RowsHold, is_kept, kept_of, next_kept}

pub legal-among : (g : SettingsFields) (s : StateFields) (a : Action) → is_legal g s a ≡ true → Among a (legal_at g s)
unfolding legal_at
legal-among g s a legal = Among-filter (is_legal g s) a all_actions (Among-all_actions a) legal

pub among-legal : (g : SettingsFields) (s : StateFields) (a : Action) → Among a (legal_at g s) → is_legal g s a ≡ true
unfolding legal_at
among-legal g s a here = (filter-Among (is_legal g s) a all_actions here).1

-- the verdict of an action
pub record VerdictOf (claim : Claim) (next among : List Prefix) (p : Prefix) (action : Action) : Type 0 where
  pub verdict : Verdict
  pub holds : Holds claim next (extend claim.g p action) verdict
  pub listed : is_kept verdict ≡ true → Among (extend claim.g p action) among

one-more : (b : Bool) (p q : Prefix) (ps : List Prefix) → Among p ps → Among p (if b then q ∷ ps else ps)
one-more true p q ps h = inr h
one-more false p q ps h = h

at-front : (b : Bool) (p : Prefix) (ps : List Prefix) → b ≡ true → Among p (if b then p ∷ ps else ps)
at-front true p ps h = inl refl
at-front false p ps h = cc

verdict-of : (claim : Claim) (next : List Prefix) (p : Prefix) (a : Action) (actions : List Action) (row : List Verdict) → RowHolds claim next p actions row → Among a actions →
    VerdictOf claim next (kept_of claim.g p actions row) p a
verdict-of claim next p a [] row h here = absurd here
verdict-of claim next p a (b ∷ actions) [] h here = absurd h
verdict-of claim next p a (b ∷ actions) (v ∷ row) h (inl same) =
    subst (λ (c : Action). VerdictOf claim next (kept_of claim.g p (b ∷ actions) (v ∷ row)) p c) same
    record { verdict = v; holds = h.0; listed = at-front (is_kept v) (extend claim.g p b) (kept_of claim.g p actions row) }
verdict-of claim next p a (b ∷ actions) (v ∷ row) h (inr later) =
    let rest = verdict-of claim next p a actions row h.1 later in
    record { verdict = rest.verdict; holds = rest.holds; listed = λ kept. one-more (is_kept v) (extend claim.g p a) (extend claim.g p b) (kept_of claim.g p actions row) (rest.listed kept) }

-- where only some of the next prefixes are kept by the rows
verdict-in : (claim : Claim) (next kept : List Prefix) (rows : List (List Verdict)) (p : Prefix) (a : Action) → RowsHold claim next kept rows → Among p kept → is_legal claim.g p.state a ≡ true →
    VerdictOf claim next (next_kept claim.g kept rows) p a
verdict-in claim next [] rows p a h here legal = absurd here
verdict-in claim next (q ∷ kept) [] p a h here legal = absurd h
verdict-in claim next (q ∷ kept) (row ∷ rows) p a h (inl same) legal =
    let legal' : is_legal claim.g q.state a ≡ true = subst (λ (c : Prefix). is_legal claim.g c.state a ≡ true) (sym same) legal in
    let found = verdict-of claim next q a (legal_after claim.g q) row h.0 (legal-among claim.g q.state a legal') in
    subst (λ (c : Prefix). VerdictOf claim next (next_kept claim.g (q ∷ kept) (row ∷ rows)) c a) same
    record { verdict = found.verdict; holds = found.holds; listed = λ keeps. Among-append_left _ (kept_of claim.g q (legal_after claim.g q) row) (next_kept claim.g kept rows) (found.listed keeps) }
verdict-in claim next (q ∷ kept) (row ∷ rows) p a h (inr later) legal =
    let found = verdict-in claim next kept rows p a h.1 later legal in
    record { verdict = found.verdict; holds = found.holds; listed = λ keeps. Among-append_right _ (kept_of claim.g q (legal_after claim.g q) row) (next_kept claim.g kept rows) (found.listed keeps) }

pub verdict-at : (claim : Claim) (kept : List Prefix) (rows : List (List Verdict)) (p : Prefix) (a : Action) → RowsHold claim (next_kept claim.g kept rows) kept rows → Among p kept → is_legal claim.g p.state a ≡ true →
    VerdictOf claim (next_kept claim.g kept rows) (next_kept claim.g kept rows) p a
verdict-at claim kept rows p a h here legal = verdict-in claim (next_kept claim.g kept rows) kept rows p a h here legal

-- a prefix that a row keeps is a live child
record KeptBy (g : SettingsFields) (p c : Prefix) : Type 0 where
  pub action : Action
  pub legal : is_legal g p.state action ≡ true
  pub live : is_over g (extend g p action).state ≡ false
  pub is : extend g p action ≡ c

holds-live : (claim : Claim) (next : List Prefix) (p : Prefix) (v : Verdict) → is_kept v ≡ true → Holds claim next p v → is_over claim.g p.state ≡ false
holds-live claim next p Kept e h = h
holds-live claim next p Complete e h = cc
holds-live claim next p Failed e h = cc
holds-live claim next p Limited e h = cc
holds-live claim next p Late e h = cc
holds-live claim next p (Dominated place) e h = cc

kept-cases : (b : Bool) (p q : Prefix) (ps : List Prefix) → Among p (if b then q ∷ ps else ps) → ((b ≡ true) × (q ≡ p)) ⊎ Among p ps
kept-cases true p q ps (inl e) = inl (refl, e)
kept-cases true p q ps (inr h) = inr h
kept-cases false p q ps h = inr h

kept-by : (claim : Claim) (next : List Prefix) (p c : Prefix) (actions : List Action) (row : List Verdict) → ((a : Action) → Among a actions → is_legal claim.g p.state a ≡ true) → RowHolds claim next p actions row →
    Among c (kept_of claim.g p actions row) → KeptBy claim.g p c
kept-by claim next p c [] row legal h here = absurd here
kept-by claim next p c (a ∷ actions) [] legal h here = absurd h
kept-by claim next p c (a ∷ actions) (v ∷ row) legal h here = elim (kept-cases (is_kept v) c (extend claim.g p a) (kept_of claim.g p actions row) here) [
  | inl both ↦ record { action = a; legal = legal a (inl refl); live = holds-live claim next (extend claim.g p a) v both.0 h.0; is = both.1 }
  | inr later ↦ kept-by claim next p c actions row (λ b among. legal b (inr among)) h.1 later
]

-- and so a prefix of one action more
pub next-prefixes : (claim : Claim) (k : ℕ) (next kept : List Prefix) (rows : List (List Verdict)) → ((p : Prefix) → Among p kept → IsPrefixAt claim.g (start_of claim.g) k p) → RowsHold claim next kept rows →
    (c : Prefix) → Among c (next_kept claim.g kept rows) → IsPrefixAt claim.g (start_of claim.g) (suc k) c
next-prefixes claim k next [] rows facts h c here = absurd here
next-prefixes claim k next (p ∷ kept) [] facts h c here = absurd h
next-prefixes claim k next (p ∷ kept) (row ∷ rows) facts h c here = elim (Among-append_cases c (kept_of claim.g p (legal_after claim.g p) row) (next_kept claim.g kept rows) here) [
  | inl first ↦
      let by = kept-by claim next p c (legal_after claim.g p) row (λ a among. among-legal claim.g p.state a among) h.0 first in
      subst (λ (q : Prefix). IsPrefixAt claim.g (start_of claim.g) (suc k) q) by.is (prefix-next claim.g (start_of claim.g) k p by.action (facts p (inl refl)) (goes_on-by claim.g p.state by.action by.legal by.live))
  | inr later ↦ next-prefixes claim k next kept rows (λ q among. facts q (inr among)) h.1 c later
]

pub slice_get-Among : {X : Type 0} (xs : List X) (i : ℕ) (x : X) → slice_get xs i ≡ Some x → Among x xs
slice_get-Among [] i x h = cc
slice_get-Among (y ∷ xs) zero x h = inl (cc)
slice_get-Among (y ∷ xs) (suc i) x h = inr (slice_get-Among xs i x h)
