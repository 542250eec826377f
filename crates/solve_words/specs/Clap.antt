-- The command that clap is given.
use Rattle.std.specs.Prelude.{true, List, map, Some}
use Rattle.clap.specs.Walk.{Rule}
use Rattle.clap.specs.Simple.{App, new_rule, new_shape, new_app}
use Rattle.clap.specs.declared.builder.action.ArgAction.TheVariants as action
use Rattle.solve_words.specs.Form.{Text}

-- `Arg::new(name).long(name).action(ArgAction::Set)`
abbrev pub raw : Text → Rule
raw name = record (new_rule name) { long = Some name; action = Some action.Set }

abbrev pub app_with : Text → List Rule → App
app_with name rules = record (new_app name) {
  top = record (new_shape name) { rules = rules; disable_help_flag = true; no_binary_name = true };
}

abbrev pub app : Text → List Text → App
app title names = app_with title (map raw names)
