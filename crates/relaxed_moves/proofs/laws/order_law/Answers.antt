use Rattle.relaxed_moves.proofs.Costs.{unit_positive}
use Rattle.relaxed_moves.proofs.Order.{is_move-more, move_gain-more, move_on-no_better}
use Rattle.relaxed_moves.proofs.laws.order_law.Goals as goal

pub returns-clause-moves : goal.returns-clause-moves
returns-clause-moves c = λ g x y action bounds worse may. is_move-more g x y action worse bounds may

pub returns-clause-gain : goal.returns-clause-gain
returns-clause-gain c = λ g x y action worse. move_gain-more g x y action worse

pub returns-clause-move_on : goal.returns-clause-move_on
returns-clause-move_on c = λ g grain x y action settings low worse. move_on-no_better g grain x y action (unit_positive g grain settings low) worse
