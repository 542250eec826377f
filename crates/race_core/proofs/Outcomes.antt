-- What holds of the value where a call went well.
use Rattle.std.proofs.Common.{◌≡◌, IfOk, Result, Ok, Err, MatchResult, sym, subst}

pub where-ok : {A B C : Type 0} (P : C → Type 0) (r : Result A B) (x y : C) (Q : B → Type 0) → MatchResult r (λ _. x ≡ y) Q → P y → IfOk r (λ _. P x)
where-ok P (Ok a) x y Q h p = subst P (sym h) p
where-ok P (Err e) x y Q h p = tt
