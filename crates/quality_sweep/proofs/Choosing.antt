-- What choosing candidates does.
use Rattle.std.proofs.Common.{◌≡◌, ◌∙◌, sym, ℕ, Bool, true, false, not, inl, inr, List, [], ◌∷◌, ◌++◌, Option, if◌then◌else◌, subst, ap, min}
use Rattle.std.specs.List.{Contains}
use Rattle.std.proofs.lemmas.List.Elements.{Contains-append_left, Contains-append_right, Contains-push, Contains-push_cases, Contains-append_cases}
use Rattle.plain_lemmas.proofs.Tests.{not_false}
use Rattle.craft_state.specs.Craft.{StateFields}
use Rattle.craft_settings.specs.Ranges.{SettingsFields}
use Rattle.craft_settings.specs.Rules.{cap_of}
use Rattle.pareto_front.specs.Kept.{is_covered, IsCovered}
use Rattle.pareto_front.proofs.Covered.{covered_from, IsCovered-push}
use Rattle.quality_sweep.specs.declared.candidate.Candidate.{Candidate}
use Rattle.quality_sweep.specs.Ahead.{is_above}
use Rattle.quality_sweep.specs.Sweeping.{IsPassedOver, Chooses}
use Rattle.quality_sweep.proofs.Exploring.{contains_nil, contains_one}

pub chooses-none : (g : SettingsFields) (best : Option ℕ) (kept : List StateFields) (chosen : List Candidate) → Chooses g [] best kept kept chosen chosen
chooses-none g best kept chosen = record {
  each = λ c there. absurd (contains_nil c there);
  keeps = λ k h. h;
  adds = λ c h. h;
  fresh = λ k h. inl h;
  among = λ c h. inl h;
}

passed : (g : SettingsFields) (c : Candidate) (best : Option ℕ) (kept : List StateFields) (chosen : List Candidate) → IsPassedOver g kept best c → Chooses g (c ∷ []) best kept kept chosen chosen
passed g c best kept chosen h = record {
  each = λ x there. subst (λ (y : Candidate). IsPassedOver g kept best y) (contains_one c x there) h;
  keeps = λ k h. h;
  adds = λ c h. h;
  fresh = λ k h. inl h;
  among = λ c h. inl h;
}

pub chooses_cut : (g : SettingsFields) (c : Candidate) (best : Option ℕ) (kept : List StateFields) (chosen : List Candidate) → is_above (min (cap_of g) c.limit) best ≡ false → Chooses g (c ∷ []) best kept kept chosen chosen
chooses_cut g c best kept chosen cut = passed g c best kept chosen (inl cut)

-- the answer of what keeps states
kept_when : (is_new : Bool) (kept kept' : List StateFields) (s : StateFields) → kept' ≡ (if is_new then kept ++ s ∷ [] else kept) → is_new ≡ true → kept' ≡ kept ++ s ∷ []
kept_when is_new kept kept' s is new = is ∙ ap (λ (b : Bool). if b then kept ++ s ∷ [] else kept) new

kept_still : (is_new : Bool) (kept kept' : List StateFields) (s : StateFields) → kept' ≡ (if is_new then kept ++ s ∷ [] else kept) → is_new ≡ false → kept' ≡ kept
kept_still is_new kept kept' s is old = is ∙ ap (λ (b : Bool). if b then kept ++ s ∷ [] else kept) old

pub chooses_old : (g : SettingsFields) (c : Candidate) (best : Option ℕ) (kept kept' : List StateFields) (chosen : List Candidate) (is_new : Bool) → is_new ≡ not (is_covered kept c.state) →
    kept' ≡ (if is_new then kept ++ c.state ∷ [] else kept) → is_new ≡ false → Chooses g (c ∷ []) best kept kept' chosen chosen
chooses_old g c best kept kept' chosen is_new answer is old =
    let covered : is_covered kept c.state ≡ true = not_false (is_covered kept c.state) (sym answer ∙ old) in
    subst (λ (k : List StateFields). Chooses g (c ∷ []) best kept k chosen chosen) (sym (kept_still is_new kept kept' c.state is old)) (passed g c best kept chosen (inr (covered_from kept c.state covered)))

pub chooses_new : (g : SettingsFields) (c : Candidate) (best : Option ℕ) (kept kept' : List StateFields) (chosen chosen' : List Candidate) (is_new : Bool) →
    kept' ≡ (if is_new then kept ++ c.state ∷ [] else kept) → is_new ≡ true → chosen' ≡ chosen ++ c ∷ [] → Chooses g (c ∷ []) best kept kept' chosen chosen'
chooses_new g c best kept kept' chosen chosen' is_new is new added =
    subst (λ (k : List StateFields). Chooses g (c ∷ []) best kept k chosen chosen') (sym (kept_when is_new kept kept' c.state is new))
    (subst (λ (l : List Candidate). Chooses g (c ∷ []) best kept (kept ++ c.state ∷ []) chosen l) (sym added) record {
      each = λ x there. inr (subst (λ (y : Candidate). IsCovered (kept ++ c.state ∷ []) y.state) (contains_one c x there) (IsCovered-push kept c.state));
      keeps = λ k h. Contains-append_left kept (c.state ∷ []) k h;
      adds = λ x h. Contains-append_left chosen (c ∷ []) x h;
      fresh = λ k h. elim (Contains-push_cases kept c.state k h) [ inl old ↦ inl old | inr e ↦ inr (record { candidate = c; there = Contains-push chosen c; same = e }) ];
      among = λ x h. elim (Contains-push_cases chosen c x h) [ inl old ↦ inl old | inr e ↦ inr (subst (λ (y : Candidate). Contains (c ∷ []) y) e (Contains-push [] c)) ];
    })

pub chooses-append : (g : SettingsFields) (xs ys : List Candidate) (best : Option ℕ) (a b c : List StateFields) (u v w : List Candidate) → Chooses g xs best a b u v → Chooses g ys best b c v w → Chooses g (xs ++ ys) best a c u w
chooses-append g xs ys best a b c u v w h k = record {
  each = λ x there. elim (Contains-append_cases xs ys x there) [ inl first ↦ later x (h.each x first) | inr second ↦ k.each x second ];
  keeps = λ s there. k.keeps s (h.keeps s there);
  adds = λ x there. k.adds x (h.adds x there);
  fresh = λ s there. elim (k.fresh s there) [
    | inl before ↦ elim (h.fresh s before) [ inl old ↦ inl old | inr new ↦ inr (record { candidate = new.candidate; there = k.adds new.candidate new.there; same = new.same }) ]
    | inr new ↦ inr new
  ];
  among = λ x there. elim (k.among x there) [
    | inl before ↦ elim (h.among x before) [ inl old ↦ inl old | inr first ↦ inr (Contains-append_left xs ys x first) ]
    | inr second ↦ inr (Contains-append_right xs ys x second)
  ];
}
  where
    later : (x : Candidate) → IsPassedOver g b best x → IsPassedOver g c best x
    later x (inl cut) = inl cut
    later x (inr covered) = inr (record { cover = covered.cover; is_kept = k.keeps covered.cover covered.is_kept; not_less = covered.not_less })
