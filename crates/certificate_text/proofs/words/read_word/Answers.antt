use Rattle.certificate_text.proofs.WordByWord.{placed}
use Rattle.certificate_text.proofs.words.read_word.Goals as goal
use Rattle.plain_lemmas.proofs.Numbers.{above_zero}

pub returns-in-Some : goal.returns-in-Some
returns-in-Some c = placed c.args.word.now c.in-Some.place (above_zero _ c.if-is_empty.ensures) c.if-word-eq100.true c.in-Some.ensures.digits c.in-Some.ensures.value
