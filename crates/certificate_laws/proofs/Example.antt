-- The small craft's certificate is one.
use Rattle.std.proofs.Common.{◌≡◌, [], ◌∷◌, refl, arith, codes, inl, inr}
use Rattle.std.specs.Fmt.{digits}
use Rattle.action_table.specs.declared.action.Action.TheVariants.{BasicSynthesis, BasicTouch}
use Rattle.combo_effects.specs.Combos.{tick_of, after_of}
use Rattle.craft_settings.specs.Ranges.{AreSettings}
use Rattle.step_rules.specs.Legality.{start_of, reason_of}
use Rattle.step_rules.specs.Step.{acted_of, settled_of, step_of}
use Rattle.action_table.specs.Table.{action_seconds}
use Rattle.prefix_fronts.specs.Prefix.{Prefix, empty_prefix, extend}
use Rattle.certificate_text.specs.declared.verdict.Verdict.TheVariants.{Complete, Kept}
use Rattle.certificate_text.specs.Text.{Certificate, IsText}
use Rattle.certificate_laws.specs.Claims.{legal_at}
use Rattle.certificate_laws.specs.Certificate.{IsValid, IsCertificate}
use Rattle.certificate_laws.specs.Example.{small_craft, small_best, small_text}

pub small-settings : AreSettings small_craft
small-settings = record {
  level = record { low = omega arith; high = omega arith };
  cp = omega arith;
  durability = record { low = omega arith; high = omega arith };
  fives = refl;
  progress = record { low = omega arith; high = omega arith };
  quality = omega arith;
  initial = omega arith;
  base_progress = record { low = omega arith; high = omega arith };
  base_quality = record { low = omega arith; high = omega arith };
  target = omega arith;
}

-- the craft after the touch
abbrev pub touched : Prefix
touched = extend small_craft (empty_prefix small_craft) BasicTouch

pub first-legal : legal_at small_craft (start_of small_craft) ≡ BasicSynthesis ∷ BasicTouch ∷ []
unfolding legal_at reason_of
first-legal = refl

pub second-legal : legal_at small_craft touched.state ≡ BasicSynthesis ∷ []
unfolding legal_at reason_of acted_of settled_of step_of tick_of after_of
second-legal = refl

abbrev pub small_certificate : Certificate
small_certificate = record {
  grain = 16;
  actions = small_best;
  levels = ((Complete ∷ Kept ∷ []) ∷ []) ∷ ((Complete ∷ []) ∷ []) ∷ [];
}

small-shown : IsText small_certificate small_text
unfolding digits
small-shown = record {
  later = codes "level 0 1" ∷ codes "c k" ∷ codes "level 1 1" ∷ codes "c" ∷ codes "level 2 0" ∷ [] ∷ [];
  lines = refl;
  shown = (
    codes "c k" ∷ [],
    (
      codes "level 1 1" ∷ codes "c" ∷ codes "level 2 0" ∷ [] ∷ [],
      (
        refl,
        ((refl, (refl, tt)), tt),
        (codes "c" ∷ [], (codes "level 2 0" ∷ [] ∷ [], (refl, ((refl, tt), tt), refl))),
      ),
    ),
  );
}

small-valid : IsValid small_craft small_certificate
unfolding legal_at reason_of acted_of settled_of step_of tick_of after_of action_seconds
small-valid = record {
  range = record { low = omega arith; high = omega arith };
  score = record { quality = 100; steps = 2; seconds = 6 };
  completes = refl;
  hold = (
    omega arith,
    (((refl, inr refl), (refl, tt)), tt),
    (omega arith, (((refl, inl refl), tt), tt), refl),
  );
}

pub small-certificate : IsCertificate small_craft small_text small_best
small-certificate = record { certificate = small_certificate; text = small-shown; named = refl; valid = small-valid }
