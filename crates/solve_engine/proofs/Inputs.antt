-- Inputs of settings and macro text.
use Rattle.std.proofs.Common.{◌≤◌, ℕ, List, length, Option, None, Some, Ok, Err, sym, subst}
use Rattle.action_table.specs.declared.action.Action.{Action}
use Rattle.craft_settings.specs.Ranges.{SettingsFields}
use Rattle.craft_settings.specs.Reading.{max_length}
use Rattle.run_io.specs.Answering.{Rows}
use Rattle.run_io.specs.Halts.{IsAnswerIn, IsHaltBy, IsIn}
use Rattle.run_io.specs.Statuses.{IsRefusal, IsResult}
use Rattle.run_io.specs.declared.answer.Answer.{Answer}
use Rattle.run_io.specs.declared.halt.Halt.{Halt}
use Rattle.run_io.specs.declared.halt.Halt.TheVariants.{Refused, BadWords as BadWordsHalt, ReadFault as ReadFaultHalt, WantMemory as WantMemoryHalt}
use Rattle.run_io.specs.declared.status.Status.{Status}
use Rattle.run_io.specs.declared.status.Status.TheVariants.{Solved, NoMacro, BadWords, BadSettings, ReadFault, WriteFault, WantMemory, BadPrefix, NotReached, BadMacro, StoppedMacro, NotBest, BadCertificate}
use Rattle.solve_engine.specs.Input.{AreParts, Parts, WithRest}
use Rattle.solve_engine.specs.Pasted.{IsInput, IsPasted, WithMacro}

-- where a macro was found, the input is no longer than one may be
short_parts : (input settings : List ℕ) (rest : Option (List ℕ)) (m : List Action) → AreParts max_length input settings rest → IsPasted rest m → length input ≤ max_length
short_parts input settings None m are pasted = absurd pasted
short_parts input settings (Some text) m are pasted = are.0

module _ (rows : SettingsFields → List Action → Rows) (input : List ℕ) where
  pub short_macro : (s : Status) (text : List ℕ) → IsResult s → WithRest (WithMacro rows) input s text → length input ≤ max_length
  short_macro Solved text result row = short_parts input row.0.settings row.0.rest row.3.0 row.0.are row.3.1
  short_macro NoMacro text result row = short_parts input row.0.settings row.0.rest row.3.0 row.0.are row.3.1
  short_macro BadWords text result row = absurd result
  short_macro BadSettings text result row = absurd result
  short_macro ReadFault text result row = absurd result
  short_macro WriteFault text result row = absurd result
  short_macro WantMemory text result row = absurd result
  short_macro BadPrefix text result row = absurd result
  short_macro NotReached text result row = short_parts input row.0.settings row.0.rest row.3.0 row.0.are row.3.1
  short_macro BadMacro text result row = absurd result
  short_macro StoppedMacro text result row = short_parts input row.0.settings row.0.rest row.3.0 row.0.are row.3.1
  short_macro NotBest text result row = short_parts input row.0.settings row.0.rest row.3.0 row.0.are row.3.1
  short_macro BadCertificate text result row = absurd result

  answered_row : (g : SettingsFields) (m : List Action) → IsInput input g m → (s : Status) (text : List ℕ) → IsResult s → rows g m s text → WithRest (WithMacro rows) input s text
  answered_row g m is Solved text result row = (is.parts, g, is.accepted, (m, is.pasted, row))
  answered_row g m is NoMacro text result row = (is.parts, g, is.accepted, (m, is.pasted, row))
  answered_row g m is BadWords text result row = absurd result
  answered_row g m is BadSettings text result row = absurd result
  answered_row g m is ReadFault text result row = absurd result
  answered_row g m is WriteFault text result row = absurd result
  answered_row g m is WantMemory text result row = absurd result
  answered_row g m is BadPrefix text result row = absurd result
  answered_row g m is NotReached text result row = (is.parts, g, is.accepted, (m, is.pasted, row))
  answered_row g m is BadMacro text result row = absurd result
  answered_row g m is StoppedMacro text result row = (is.parts, g, is.accepted, (m, is.pasted, row))
  answered_row g m is NotBest text result row = (is.parts, g, is.accepted, (m, is.pasted, row))
  answered_row g m is BadCertificate text result row = absurd result

  -- what is answered to the macro is answered to the input
  pub answered_input : (g : SettingsFields) (m : List Action) (a : Answer) → IsInput input g m → IsAnswerIn (rows g m) a → IsIn (WithRest (WithMacro rows) input) (Ok a)
  answered_input g m a is answer = (answer.0, answered_row g m is a.status a.text.items answer.0 answer.1)

-- what is refused by rows that refuse it with each of the lines
pub halt_in : (rows : Rows) (s : Status) (lines : List ℕ → Type 0) (h : Halt) → IsRefusal s → ((line : List ℕ) → lines line → rows s line)
    → IsHaltBy s lines h → IsIn rows (Err h)
halt_in rows s lines BadWordsHalt known row halt = absurd halt
halt_in rows s lines ReadFaultHalt known row halt = absurd halt
halt_in rows s lines WantMemoryHalt known row halt = tt
halt_in rows s lines (Refused refusal) known row halt =
    (subst IsRefusal (sym halt.0) known, subst (λ (r : Status). rows r refusal.line.items) (sym halt.0) (row refusal.line.items halt.1))

-- an input that is divided so
abbrev pub parts_by : (input settings : List ℕ) (rest : Option (List ℕ)) → AreParts max_length input settings rest → Parts input
parts_by input settings rest are = record { settings = settings; rest = rest; are = are }
