-- A file without a fault is accepted with some settings.
use Rattle.std.proofs.Common.{◌≡◌, ◌≤◌, ◌<◌, ◌^◌, ◌*◌, ◌%◌, ◌||◌, ◌&&◌, ◌==◌, not, ◌↔◌, ℕ, Bool, true, false, max, List, [], ◌∷◌, length, Option, None, Some, refl, ap, ◌∙◌, arith, nat_lt, nat_eq, if◌then◌else◌}
use Rattle.std.proofs.lemmas.Bool.Decides.{nat_tests}
use Rattle.std.specs.Int.{bit_at}
use Rattle.std.specs.Int.RustNames.{bit_or}
use Rattle.toml.specs.Data.{Members}
use Rattle.action_table.specs.declared.action.Action.{Action}
use Rattle.action_table.specs.Table.{number_of}
use Rattle.craft_settings.specs.declared.fault.SettingsFault.TheVariants.{TooLong}
use Rattle.craft_settings.specs.Ranges.{SettingsFields}
use Rattle.craft_settings.specs.Keys.{level_key, cp_key, durability_key, progress_key, quality_key, initial_quality_key, target_key, trained_eye_key, backload_key}
use Rattle.craft_settings.specs.Document.{document, is_two}
use Rattle.craft_settings.specs.Names.{flag_at, names, action_of, are_against, is_ruled_out, lacks_eye, bit}
use Rattle.craft_settings.specs.Reading.{number_at, base_progress, base_quality, first_fault, file_fault, file_fault_by, document_fault_by, max_length}
use Rattle.craft_settings.specs.Steps.{Adds}
use Rattle.craft_settings.specs.Accepts.{GivesBy, IsAccepted, HasFault}
use Rattle.craft_settings.proofs.ForbidLemmas.{bit_at-set, bit_at-start, bit_at-empty}
use Rattle.craft_settings.proofs.Unique.{file_fault-accepted}
use Rattle.action_table.proofs.Names.{number_below}

-- some mask has the bits of the names beside those of another
record Mask (two : Bool) (ns : List (List ℕ)) (start : ℕ) : Type 0 where
  pub mask : ℕ
  pub adds : Adds two ns start mask

-- a name that is of no action adds no bit
adds-none : (two : Bool) (name : List ℕ) (ns : List (List ℕ)) (start mask : ℕ) → action_of two name ≡ None → Adds two ns start mask → Adds two (name ∷ ns) start mask
adds-none two name ns start mask unknown adds n = rw unknown (adds n)

max_bits : (x : ℕ) (a b : Bool) → max (max x (bit (a || false))) (bit b) ≡ max x (bit (a || b))
max_bits x true true = omega arith
max_bits x true false = omega arith
max_bits x false true = omega arith
max_bits x false false = omega arith

adds-some : (two : Bool) (name : List ℕ) (ns : List (List ℕ)) (start mask : ℕ) (action : Action) → action_of two name ≡ Some action →
    Adds two ns (bit_or start (1 * 2 ^ number_of action % 4294967296)) mask → Adds two (name ∷ ns) start mask
adds-some two name ns start mask action known adds n =
    rw known (adds n
    ∙ ap (λ x. max x (bit (are_against two ns n))) (bit_at-set start (number_of action) n (number_below action))
    ∙ max_bits (bit_at start n) (nat_eq (number_of action) n) (are_against two ns n))

mask_of : (two : Bool) (ns : List (List ℕ)) (start : ℕ) → Mask two ns start
mask_of two [] start = record { mask = start; adds = λ n. omega arith }
mask_of two (name ∷ ns) start =
    elim (action_of two name) as (λ o. action_of two name ≡ o → Mask two (name ∷ ns) start) [
      | None ↦ λ unknown. let rest = mask_of two ns start in record { mask = rest.mask; adds = adds-none two name ns start rest.mask unknown rest.adds }
      | Some action ↦ λ known.
          let rest = mask_of two ns (bit_or start (1 * 2 ^ number_of action % 4294967296)) in
          record { mask = rest.mask; adds = adds-some two name ns start rest.mask action known rest.adds }
    ] refl

-- some number has the bits of the actions that the document forbids
record RulesOut (doc : Members) : Type 0 where
  pub mask : ℕ
  pub bits : (n : ℕ) → bit_at mask n ≡ bit (is_ruled_out (is_two doc) doc n)

bit-max : (a b : Bool) → max (bit a) (bit b) ≡ bit (a || b)
bit-max true true = refl
bit-max true false = refl
bit-max false true = refl
bit-max false false = refl

start_mask : (allowed : Bool) → (mask : ℕ) × ((n : ℕ) → bit_at mask n ≡ bit ((n == 25) && not allowed))
start_mask true = (0, λ n. bit_at-empty true n refl)
start_mask false = (33554432, λ n. bit_at-start false n refl)

rules_out : (doc : Members) → RulesOut doc
rules_out doc =
    let two = is_two doc in
    let start = start_mask (two && flag_at doc trained_eye_key) in
    let all = mask_of two (names doc) start.0 in
    record {
      mask = all.mask;
      bits = λ n. all.adds n ∙ ap (λ x. max x (bit (are_against two (names doc) n))) (start.1 n)
          ∙ bit-max ((n == 25) && lacks_eye two doc) (are_against two (names doc) n);
    }

-- each document gives settings
record GivesSome (doc : Members) : Type 0 where
  pub settings : SettingsFields
  pub gives : GivesBy (is_two doc) doc settings

gives_some : (doc : Members) → GivesSome doc
gives_some doc =
    let out = rules_out doc in
    record {
      settings = record {
        level = number_at doc level_key 1;
        cp = number_at doc cp_key 0;
        durability = number_at doc durability_key 10;
        progress = number_at doc progress_key 1;
        quality = number_at doc quality_key 0;
        initial = number_at doc initial_quality_key 0;
        base_progress = base_progress doc;
        base_quality = base_quality doc;
        forbidden = out.mask;
        target = number_at doc target_key (number_at doc quality_key 0);
        backload = flag_at doc backload_key;
      };
      gives = record {
        level = refl;
        cp = refl;
        durability = refl;
        progress = refl;
        quality = refl;
        initial = refl;
        base_progress = refl;
        base_quality = refl;
        forbidden = out.bits;
        target = refl;
        backload = refl;
      };
    }

-- a file without a fault is short enough, and is a document without a fault
record IsPlain (long : Bool) (parsed : Option Members) : Type 0 where
  pub short : long ≡ false
  pub doc : Members
  pub is : parsed ≡ Some doc
  pub none : first_fault doc ≡ None

plain : (long : Bool) (parsed : Option Members) → (if long then Some TooLong else document_fault_by is_two parsed) ≡ None → IsPlain long parsed
plain true parsed h = absurd (cc)
plain false None h = absurd (cc)
plain false (Some doc) h = record { short = refl; doc = doc; is = refl; none = h }

pub accepted-from : (bytes : List ℕ) → file_fault bytes ≡ None → IsAccepted bytes
unfolding file_fault_by
accepted-from bytes none =
    let facts = plain (nat_lt max_length (length bytes)) (document bytes) none in
    let given = gives_some facts.doc in
    let short : length bytes ≤ max_length = grind (arith, nat_tests, facts.short) in
    record {
      settings = given.settings;
      accepts = record { short = short; doc = facts.doc; is_document = facts.is; no_fault = facts.none; gives = given.gives };
    }

pub accepted-exactly : (bytes : List ℕ) → (file_fault bytes ≡ None) ↔ IsAccepted bytes
accepted-exactly bytes = (accepted-from bytes, λ a. file_fault-accepted is_two bytes a.settings a.accepts)

fault-none : (bytes : List ℕ) → HasFault bytes → file_fault bytes ≡ None → ⊥
fault-none bytes f none = cc (f.is)

pub fault-exactly : (bytes : List ℕ) → HasFault bytes ↔ (IsAccepted bytes → ⊥)
fault-exactly bytes = (
  λ f a. fault-none bytes f (file_fault-accepted is_two bytes a.settings a.accepts),
  λ refused. elim (file_fault bytes) as (λ o. file_fault bytes ≡ o → HasFault bytes) [
    | None ↦ λ none. absurd (refused (accepted-from bytes none))
    | Some fault ↦ λ is. record { fault = fault; is = is }
  ] refl,
)
