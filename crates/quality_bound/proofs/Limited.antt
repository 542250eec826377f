-- The limit, by what the calls answer.
use Rattle.std.proofs.Common.{ℕ, Option, ◌≡◌, ap, ◌∙◌}
use Rattle.craft_state.specs.Craft.{StateFields}
use Rattle.craft_settings.specs.Ranges.{SettingsFields}
use Rattle.relaxed_moves.specs.Budget.{potential_of}
use Rattle.relaxed_moves.specs.Moves.{relax_of}
use Rattle.relaxed_moves.specs.Optimum.{opt, capped, limit_of}

pub limit-is : (g : SettingsFields) (grain : ℕ) (s : StateFields) (potential : ℕ) (result : Option ℕ) → potential ≡ potential_of g s
    → result ≡ capped g s (opt g grain potential (relax_of g grain s)) → result ≡ limit_of g grain s
unfolding limit_of
limit-is g grain s potential result potential_is is = is ∙ ap (λ n. capped g s (opt g grain n (relax_of g grain s))) potential_is
