use Rattle.std.proofs.lemmas.Result.{IfOk-weaker}
use Rattle.resume_start.proofs.Rest.{after-it, rest-of, whole-of}
use Rattle.resume_start.proofs.best_rest.Goals as goal

pub returns-clause-best : goal.returns-clause-best
returns-clause-best g c =
    let craft = c.args.craft.now in
    IfOk-weaker c.best_from.result _ _ (λ r found. after-it (λ m. m.items) craft.g.now craft.done.now craft.from craft.after.ran r found) c.best_from.ensures.best

pub returns-clause-empty : goal.returns-clause-empty
returns-clause-empty g c = λ none.
    let craft = c.args.craft.now in
    IfOk-weaker c.best_from.result _ _ (λ r found. whole-of (λ m. m.items) craft.g.now craft.done.now craft.from craft.after.ran r found none) c.best_from.ensures.best

pub returns-clause-rest : goal.returns-clause-rest
returns-clause-rest g c = λ rest whole.
    let craft = c.args.craft.now in
    IfOk-weaker c.best_from.result _ _ (λ r found. rest-of (λ m. m.items) craft.g.now craft.done.now craft.from craft.after.ran r rest found whole) c.best_from.ensures.best
