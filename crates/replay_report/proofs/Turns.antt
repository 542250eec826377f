-- One more line of the table.
use Rattle.std.proofs.Common.{◌≡◌, ◌≢◌, ◌<◌, ◌+◌, ◌++◌, ◌∙◌, [], ℕ, List, Option, None, Some, true, false, refl, sym, ap, arith, subst, take, drop, length, get_or, flat_map, append_assoc}
use Rattle.std.specs.List.{enumerate_from}
use Rattle.std.specs.Option.{option_map_or}
use Rattle.std.proofs.lemmas.List.{at_drop_more, take_all}
use Rattle.std.proofs.lemmas.Option.{slice_get-get_or}
use Rattle.action_table.specs.declared.action.Action.{Action}
use Rattle.craft_state.specs.Craft.{StateFields}
use Rattle.craft_settings.specs.Ranges.{SettingsFields}
use Rattle.step_rules.specs.Legality.{is_legal}
use Rattle.step_rules.proofs.Runs.{run_of-stopped}
use Rattle.step_rules.specs.Run.{run_of}
use Rattle.replay_report.specs.Lines.{head_of, table_row}
use Rattle.replay_report.specs.Report.{first_line, shown, step_line}
use Rattle.replay_report.specs.States.{AreStatesOf}
use Rattle.replay_report.specs.declared.style.Report.{Report}

-- each next action of a list that runs is legal
pub next_of_run : (g : SettingsFields) (s state : StateFields) (actions : List Action) (place : ℕ) (d : Action) → place < length actions →
    run_of g s actions ≢ None → run_of g s (take place actions) ≡ Some state → is_legal g state (get_or actions place d) ≡ true
next_of_run g s state actions place d inside runs ran =
    elim (is_legal g state (get_or actions place d)) as (λ b. is_legal g state (get_or actions place d) ≡ b → b ≡ true) [
      | true ↦ λ h. refl
      | false ↦ λ h. absurd (runs (run_of-stopped g s state actions place (get_or actions place d) ran (slice_get-get_or actions place d inside) h))
    ] refl

-- the line of the action at a place goes over from what is left to what is written
pub table_more : (g : SettingsFields) (s : StateFields) (style : Report) (limits : List ℕ) (state : StateFields) (actions : List Action) (place : ℕ) (d : Action) (limit : Option ℕ) (text more whole : List ℕ) → place < length actions →
    run_of g s (take (place + 1) actions) ≡ Some state → limit ≡ shown style limits place →
    text ++ flat_map (step_line g s style limits actions) (enumerate_from place (drop place actions)) ≡ whole →
    more ≡ text ++ table_row (place + 1) (get_or actions place d) state limit →
    more ++ flat_map (step_line g s style limits actions) (enumerate_from (place + 1) (drop (place + 1) actions)) ≡ whole
table_more g s style limits state actions place d limit text more whole inside ran is before written =
    let action = get_or actions place d in
    let row = table_row (place + 1) action state (shown style limits place) in
    let rest = flat_map (step_line g s style limits actions) (enumerate_from (place + 1) (drop (place + 1) actions)) in
    let line : step_line g s style limits actions (place, action) ≡ row = ap (λ o. option_map_or (λ after. table_row (place + 1) action after (shown style limits place)) o []) ran in
    let split = at_drop_more (λ left. text ++ flat_map (step_line g s style limits actions) (enumerate_from place left)) actions place d inside in
    ap (λ (t : List ℕ). t ++ rest) (written ∙ ap (λ l. text ++ table_row (place + 1) action state l) is)
    ∙ append_assoc text row rest
    ∙ ap (λ (t : List ℕ). text ++ (t ++ rest)) (sym line)
    ∙ sym split
    ∙ before

-- the first line is that of the last state
pub first_line_is : (g : SettingsFields) (s : StateFields) (m : List Action) (states : List StateFields) (last : StateFields) (text : List ℕ) → AreStatesOf g s m states
    → last ≡ get_or states (length m) last → text ≡ head_of g m last → text ≡ first_line g s m
first_line_is g s m states last text are read is =
    let ran : run_of g s m ≡ Some last =
    subst (λ ms. run_of g s ms ≡ Some last) (take_all (length m) m (omega arith)) (are.each (length m) last (omega arith) ∙ ap Some (sym read))
    in
    is ∙ ap (λ o. option_map_or (head_of g m) o []) (sym ran)
