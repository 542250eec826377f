use Rattle.std.proofs.Common.{◌≡◌, List, map, codes, string_bytes, false, sym, ◌∙◌}
use Rattle.std.specs.List.{list_any}
use Rattle.clap.specs.Simple.{app_of}
use Rattle.clap.proofs.WalkLemmas.{list_any-map}
use Rattle.solve_words.specs.Form.{Text, is_stray}
use Rattle.solve_words.proofs.Strays.{stray_gives_none}
use Rattle.solve_words.proofs.Walks.{clap_is_exact, options_found, options_refused}
use Rattle.solve_words.proofs.options.Goals as goal

pub returns-then-has_stray-clause-bad : goal.returns-then-has_stray-clause-bad
returns-then-has_stray-clause-bad c bad =
    let names : List Text = map (λ s. s.now) c.args.names.now in
    let words : List Text = map string_bytes c.args.words.now in
    stray_gives_none names words (sym (list_any-map is_stray string_bytes c.args.words.now) ∙ sym c.if-has_stray.ensures)

pub returns-in-Ok-clause-ok : goal.returns-in-Ok-clause-ok
returns-in-Ok-clause-ok c =
    let names : List Text = map (λ s. s.now) c.args.names.now in
    let words : List Text = map string_bytes c.args.words.now in
    let clear : list_any is_stray words ≡ false = sym (list_any-map is_stray string_bytes c.args.words.now) ∙ sym c.if-has_stray.ensures in
    let app = app_of c.in_ok-command.command in
    options_found (codes "options") names words app c.in-Ok.matches c.in_ok-command.ensures clear
    (c.in-Ok.ensures.kinds (clap_is_exact (codes "options") names app c.in_ok-command.ensures)) c.in-Ok.ensures.matches

pub returns-in-Err-clause-bad : goal.returns-in-Err-clause-bad
returns-in-Err-clause-bad c bad =
    let names : List Text = map (λ s. s.now) c.args.names.now in
    let words : List Text = map string_bytes c.args.words.now in
    let clear : list_any is_stray words ≡ false = sym (list_any-map is_stray string_bytes c.args.words.now) ∙ sym c.if-has_stray.ensures in
    let app = app_of c.in_ok-command.command in
    options_refused (codes "options") names words app c.in-Err.error c.in_ok-command.ensures clear
    (c.in-Err.ensures.kinds (clap_is_exact (codes "options") names app c.in_ok-command.ensures))
    (λ memory. c.fault_for.ensures bad (c.kind.ensures ∙ memory))
