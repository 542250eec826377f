-- A line is of one kind at most, a text names one list of actions at most, and has one first line of no kind at most.
use Rattle.std.proofs.Common.{◌≡◌, ◌≢◌, ◌==◌, ◌<◌, ◌+◌, ◌++◌, ◌∷◌, [], ℕ, List, Bor, length, map, take, drop, get_or, codes, ◌∙◌, suc, ap, sym, refl, subst, inl, inr, append-nil}
use Rattle.std.proofs.lemmas.List.Elements.{All-nil, All-cons, All-head, All-tail}
use Rattle.std.proofs.lemmas.List.{map_push, map-append, length-map, take-append-drop, drop_more}
use Rattle.std.specs.List.{All, slice_split}
use Rattle.std.specs.Str.Lines.{strip_carriage_return}
use Rattle.action_table.specs.declared.action.Action.{Action}
use Rattle.action_table.specs.Table.{display_name_of}
use Rattle.macro_read.specs.declared.lines.Line.{Line}
use Rattle.macro_read.specs.declared.lines.Line.TheVariants.{Empty, Heading, Names}
use Rattle.macro_read.specs.Lines.{Text, line_end, lines_of, IsHeading, IsCommand, IsActionLine, IsOfKind}
use Rattle.macro_read.specs.Reading.{AllName, IsUnderstood, IsFirstOfNoKind, named_then}
use Rattle.macro_read.proofs.Names.{same_name, same_quoted}

-- what a command begins is neither empty nor a heading
command-begins : (command rest : Text) → IsCommand command → (more : Text) × (command ++ rest ≡ codes "/" ++ more)
command-begins command rest (inl is) = (codes "ac" ++ rest, ap (λ (t : Text). t ++ rest) is)
command-begins command rest (inr is) = (codes "action" ++ rest, ap (λ (t : Text). t ++ rest) is)

action-begins : (line : Text) (action : Action) → IsActionLine action line → (more : Text) × (line ≡ codes "/" ++ more)
action-begins line action is =
    let begun = command-begins is.command (codes " \"" ++ (display_name_of action ++ (codes "\"" ++ is.wait))) is.is_command in
    (begun.0, is.text ∙ begun.1)

not_empty : (line : Text) (action : Action) → IsActionLine action line → line ≢ []
not_empty line action is empty =
    let begun = action-begins line action is in
    let both : [] ≡ codes "/" ++ begun.0 = sym empty ∙ begun.1 in
    cc

not_heading : (line : Text) (action : Action) → IsActionLine action line → IsHeading line → ⊥
not_heading line action is heading =
    let begun = action-begins line action is in
    let both : codes "macro " ++ heading.number ≡ codes "/" ++ begun.0 = sym heading.text ∙ begun.1 in
    cc

same_action : (line : Text) (a b : Action) → IsActionLine a line → IsActionLine b line → a ≡ b
same_action line a b is other =
    same_name a b is.wait other.wait (same_quoted is.command other.command _ _ is.is_command other.is_command (sym is.text ∙ other.text))

pub same_kind : (line : Text) (a b : Line) → IsOfKind line a → IsOfKind line b → a ≡ b
same_kind line Empty Empty is other = refl
same_kind line Empty Heading is other =
    let both : [] ≡ codes "macro " ++ other.number = sym is ∙ other.text in
    cc
same_kind line Empty (Names action) is other = absurd (not_empty line action other is)
same_kind line Heading Empty is other =
    let both : [] ≡ codes "macro " ++ is.number = sym other ∙ is.text in
    cc
same_kind line Heading Heading is other = refl
same_kind line Heading (Names action) is other = absurd (not_heading line action other is)
same_kind line (Names action) Empty is other = absurd (not_empty line action is other)
same_kind line (Names action) Heading is other = absurd (not_heading line action is other)
same_kind line (Names a) (Names b) is other = ap Names (same_action line a b is other)

-- at most one list of actions fits
pub same_actions : (lines : List Text) (a b : List Action) → AllName lines a → AllName lines b → a ≡ b
same_actions [] a b is other = is ∙ sym other
same_actions (line ∷ lines) a b is other =
    let kind = same_kind line is.0 other.0 is.1.1.0 other.1.1.0 in
    let rest = same_actions lines is.1.0 other.1.0 is.1.1.1 other.1.1.1 in
    is.1.1.2 ∙ (λ i. named_then (kind i) (rest i)) ∙ sym other.1.1.2

-- one line more
pub named-push : (lines : List Text) (actions : List Action) (line : Text) (kind : Line) → AllName lines actions → IsOfKind line kind → AllName (lines ++ (line ∷ [])) (actions ++ named_then kind [])
named-push [] actions line kind is of_kind = (kind, ([], (of_kind, refl, ap (λ (a : List Action). a ++ named_then kind []) is)))
named-push (first ∷ lines) actions line kind is of_kind = (
  is.0,
  (
    is.1.0 ++ named_then kind [],
    (
      is.1.1.0,
      named-push lines is.1.0 line kind is.1.1.1 of_kind,
      ap (λ (a : List Action). a ++ named_then kind []) is.1.1.2 ∙ then-append is.0 is.1.0 (named_then kind []),
    ),
  ),
)
  where
    then-append : (kind : Line) (a b : List Action) → named_then kind a ++ b ≡ named_then kind (a ++ b)
    then-append (Names action) a b = refl
    then-append _ a b = refl

-- one line more of those that an iterator gave: text is the line without its CR
pub named-line : (given : List (Bor Text)) (line : Bor Text) (actions items : List Action) (text : Text) (read kind : Line)
    → AllName (map strip_carriage_return (map (λ l. l.now) given)) actions → IsOfKind text read → text ≡ strip_carriage_return line.now → read ≡ kind
    → items ≡ actions ++ named_then kind [] → AllName (map strip_carriage_return (map (λ l. l.now) (given ++ (line ∷ [])))) items
named-line given line actions items text read kind named is same_text same_kind' more =
    let now : Bor Text → Text = λ l. l.now in
    let before : List Text = map strip_carriage_return (map now given) in
    let lines : map strip_carriage_return (map now (given ++ (line ∷ []))) ≡ before ++ (strip_carriage_return line.now ∷ []) =
    ap (map strip_carriage_return) (map_push now given line) ∙ map_push strip_carriage_return (map now given) line.now in
    let is' : IsOfKind (strip_carriage_return line.now) kind = subst (IsOfKind (strip_carriage_return line.now)) same_kind' (subst (λ (l : Text). IsOfKind l read) same_text is) in
    subst (λ (ls : List Text). AllName ls items) (sym lines) (subst (AllName (before ++ (strip_carriage_return line.now ∷ []))) (sym more) (named-push before actions (strip_carriage_return line.now) kind named is'))

-- a kind that names no action
pub names_none : (kind : Line) (actions : List Action) → ((action : Action) → kind ≡ Names action → ⊥) → actions ≡ actions ++ named_then kind []
names_none Empty actions none = sym (append-nil actions)
names_none Heading actions none = sym (append-nil actions)
names_none (Names action) actions none = absurd (none action refl)

-- each of the lines is of one of the kinds
pub all-understood : (lines : List Text) (actions : List Action) → AllName lines actions → All IsUnderstood lines
all-understood [] actions is = All-nil IsUnderstood
all-understood (line ∷ lines) actions is = All-cons IsUnderstood line lines (is.0, is.1.1.0) (all-understood lines is.1.0 is.1.1.1)

middle : (before : List Text) (line : Text) (after : List Text) → All IsUnderstood (before ++ (line ∷ after)) → IsUnderstood line
middle [] line after all = All-head IsUnderstood line after all
middle (first ∷ before) line after all = middle before line after (All-tail IsUnderstood first (before ++ (line ∷ after)) all)

-- no list of actions fits where a line is of none of the kinds
pub fits-apart : (lines : List Text) (actions : List Action) (number : ℕ) → AllName lines actions → IsFirstOfNoKind lines number → ⊥
fits-apart lines actions number is bad =
    bad.no_kind (middle bad.before bad.line bad.after (subst (All IsUnderstood) bad.parts (all-understood lines actions is)))

-- the next line, where it is of none of the kinds, is the first such line
pub first-here : (text : Text) (given : List (Bor Text)) (line : Bor Text) (actions : List Action)
    → map (λ l. l.now) given ≡ take (length given) (slice_split (λ byte. byte == line_end) text)
    → (length given < length (slice_split (λ byte. byte == line_end) text)) × (line.now ≡ get_or (slice_split (λ byte. byte == line_end) text) (length given) line.now)
    → AllName (map strip_carriage_return (map (λ l. l.now) given)) actions → (IsUnderstood (strip_carriage_return line.now) → ⊥)
    → IsFirstOfNoKind (lines_of text) (length given + 1)
first-here text given line actions so_far here named no_kind =
    let parts : List Text = slice_split (λ byte. byte == line_end) text in
    let read : Bor Text → Text = λ l. l.now in
    let n : ℕ = length given in
    let cut : parts ≡ map read given ++ (line.now ∷ drop (n + 1) parts) =
    sym (take-append-drop n parts) ∙ (λ i. sym so_far i ++ drop n parts)
    ∙ ap (λ (rest : List Text). map read given ++ rest) (drop_more parts n line.now here.0 ∙ ap (λ (l : Text). l ∷ drop (n + 1) parts) (sym here.1)) in
    record {
      before = map strip_carriage_return (map read given);
      line = strip_carriage_return line.now;
      after = map strip_carriage_return (drop (n + 1) parts);
      parts = ap (map strip_carriage_return) cut ∙ map-append strip_carriage_return (map read given) (line.now ∷ drop (n + 1) parts);
      place = ap (λ k. k + 1) (sym (length-map (map read given) strip_carriage_return ∙ length-map given read));
      understood = all-understood (map strip_carriage_return (map read given)) actions named;
      no_kind = no_kind;
    }

-- at most one line is the first
pub same_first : (lines : List Text) (m n : ℕ) → IsFirstOfNoKind lines m → IsFirstOfNoKind lines n → m ≡ n
same_first lines m n is other =
    is.place ∙ ap (λ k. k + 1) (same_length is.before other.before is.line other.line is.after other.after (sym is.parts ∙ other.parts) is.understood other.understood is.no_kind other.no_kind) ∙ sym other.place
  where
    same_length : (a b : List Text) (x y : Text) (s t : List Text) → a ++ (x ∷ s) ≡ b ++ (y ∷ t) → All IsUnderstood a → All IsUnderstood b → (IsUnderstood x → ⊥) → (IsUnderstood y → ⊥) → length a ≡ length b
    same_length [] [] x y s t e all every none nor = refl
    same_length [] (z ∷ b) x y s t e all every none nor =
        let same : x ≡ z = cc in
        absurd (none (subst IsUnderstood (sym same) (All-head IsUnderstood z b every)))
    same_length (z ∷ a) [] x y s t e all every none nor =
        let same : y ≡ z = cc in
        absurd (nor (subst IsUnderstood (sym same) (All-head IsUnderstood z a all)))
    same_length (z ∷ a) (w ∷ b) x y s t e all every none nor =
        let rest : a ++ (x ∷ s) ≡ b ++ (y ∷ t) = cc in
        ap (λ k. suc k) (same_length a b x y s t rest (All-tail IsUnderstood z a all) (All-tail IsUnderstood w b every) none nor)
