use Rattle.std.proofs.Common.{◌∙◌, sym, subst}
use Rattle.craft_settings.specs.Ranges.{AreSettings}
use Rattle.certificate_laws.proofs.Made.{made-certificate}
use Rattle.certificate_maker.proofs.Texted.{written-made}
use Rattle.certificate_maker.proofs.certify.Goals as goal

pub returns-clause-made : goal.returns-clause-made
returns-clause-made g c =
    written-made (record { g = c.args.g.now; grain = c.args.grain; actions = c.args.actions.now; score = c.in-Some.score }) c.in_ok-bytes-in-Some.bytes.items c.requires.high (sym c.score.ensures ∙ c.in-Some.is) c.in_ok-bytes-in-Some.ensures

pub returns-clause-certificate : goal.returns-clause-certificate
returns-clause-certificate g c =
    let settings : AreSettings c.args.g.now = subst AreSettings c.g.view_is c.g.invariant in
    made-certificate c.args.g.now c.args.grain c.args.actions.now c.in_ok-bytes-in-Some.bytes.items settings (record { low = c.requires.low; high = c.requires.high }) c.requires.best
    (written-made (record { g = c.args.g.now; grain = c.args.grain; actions = c.args.actions.now; score = c.in-Some.score }) c.in_ok-bytes-in-Some.bytes.items c.requires.high (sym c.score.ensures ∙ c.in-Some.is) c.in_ok-bytes-in-Some.ensures)
