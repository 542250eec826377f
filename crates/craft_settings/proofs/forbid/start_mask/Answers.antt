use Rattle.craft_settings.proofs.ForbidLemmas.{bit_at-start, bit_at-empty}
use Rattle.craft_settings.proofs.forbid.start_mask.Goals as goal

pub returns-then-allowed : goal.returns-then-allowed
returns-then-allowed c = λ n. rw c.flag_at.ensures at (bit_at-empty _ n c.if-allowed.true)

pub returns-else-allowed : goal.returns-else-allowed
returns-else-allowed c = λ n. rw c.number.ensures.value (rw c.flag_at.ensures at (bit_at-start _ n c.if-allowed.false))
