-- A document whose version isn't 2 is read as by a reader that knows the first version alone.
use Rattle.std.proofs.Common.{◌≡◌, ◌∙◌, ℕ, false, List, Option, Some, None, option_map, Result, Ok, Err, IfOk, IfErr, length, nat_lt, ap, sym, subst, inl, inr, if◌then◌else◌}
use Rattle.std.specs.Int.{bit_at}
use Rattle.toml.specs.Data.{Members}
use Rattle.action_table.specs.declared.action.Action.TheVariants.{TrainedEye}
use Rattle.action_table.specs.Table.{number_of}
use Rattle.craft_settings.specs.declared.fault.SettingsFault.{SettingsFault}
use Rattle.craft_settings.specs.declared.fault.SettingsFault.TheVariants.{TooLong}
use Rattle.craft_settings.specs.Ranges.{SettingsFields}
use Rattle.craft_settings.specs.Accepts.{GivesBy, AcceptsBy, Accepts}
use Rattle.craft_settings.specs.Document.{document, is_two}
use Rattle.craft_settings.specs.Fault.{OrMemory}
use Rattle.craft_settings.specs.FirstVersion.{is_never_two, IsFirst, IsFirstAnswer}
use Rattle.craft_settings.specs.Reading.{fault_by, document_fault_by, file_fault_by, file_fault, max_length}
use Rattle.craft_settings.proofs.Unique.{IsAnswerBy-from}

-- the document of such a file
is_first-at : (bytes : List ℕ) (doc : Members) → IsFirst bytes → document bytes ≡ Some doc → is_two doc ≡ false
is_first-at bytes doc first at = let here : option_map is_two (Some doc) ≡ Some false = rw at at first in cc

document-first : (o : Option Members) → option_map is_two o ≡ Some false → document_fault_by is_two o ≡ document_fault_by is_never_two o
document-first None first = cc
document-first (Some doc) first = let version : is_two doc ≡ false = cc in ap (λ two. fault_by two doc) version

fault-first : (bytes : List ℕ) → IsFirst bytes → file_fault bytes ≡ file_fault_by is_never_two bytes
unfolding file_fault_by
fault-first bytes first =
    ap (λ fault. if nat_lt max_length (length bytes) then Some TooLong else fault) (document-first (document bytes) first)

accepts-first : (bytes : List ℕ) (g : SettingsFields) → IsFirst bytes → Accepts bytes g → AcceptsBy is_never_two bytes g
accepts-first bytes g first a =
    let version = is_first-at bytes a.doc first a.is_document in record {
      short = a.short;
      doc = a.doc;
      is_document = a.is_document;
      no_fault = ap (λ two. fault_by two a.doc) (sym version) ∙ a.no_fault;
      gives = subst (λ two. GivesBy two a.doc g) version a.gives;
    }

accepted-first : (bytes : List ℕ) (r : Result SettingsFields SettingsFault) → IsFirst bytes → IfOk r (Accepts bytes)
    → IfOk r (AcceptsBy is_never_two bytes)
accepted-first bytes (Ok g) first ok = accepts-first bytes g first ok
accepted-first bytes (Err e) first ok = ok

refused-first : (bytes : List ℕ) (r : Result SettingsFields SettingsFault) → IsFirst bytes
    → IfErr r (λ e. OrMemory e (file_fault bytes ≡ Some e)) → IfErr r (λ e. OrMemory e (file_fault_by is_never_two bytes ≡ Some e))
refused-first bytes (Ok g) first err = err
refused-first bytes (Err e) first (inl memory) = inl memory
refused-first bytes (Err e) first (inr fault) = inr (sym (fault-first bytes first) ∙ fault)

no_eye : (bytes : List ℕ) (r : Result SettingsFields SettingsFault) → IfOk r (AcceptsBy is_never_two bytes)
    → IfOk r (λ g. bit_at g.forbidden (number_of TrainedEye) ≡ 1)
no_eye bytes (Ok g) ok = ok.gives.forbidden (number_of TrainedEye)
no_eye bytes (Err e) ok = ok

pub IsFirstAnswer-from : (bytes : List ℕ) (r : Result SettingsFields SettingsFault) → IfOk r (Accepts bytes)
    → IfErr r (λ e. OrMemory e (file_fault bytes ≡ Some e)) → IsFirst bytes → IsFirstAnswer bytes r
IsFirstAnswer-from bytes r ok err first =
    let accepted = accepted-first bytes r first ok in record {
      read = IsAnswerBy-from is_never_two bytes r accepted (refused-first bytes r first err);
      no_eye = no_eye bytes r accepted;
    }
