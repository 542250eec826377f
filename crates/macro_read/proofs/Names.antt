-- A line names one action at most.
use Rattle.std.proofs.Common.{◌≡◌, ◌≢◌, ◌==◌, true, false, ◌+◌, ◌-◌, ◌++◌, ◌∷◌, [], ℕ, Option, None, Some, MatchOption, Bor, nat_eq, find, position, length, take, drop, get_or, if◌then◌else◌, codes, ◌∙◌, ap, sym, refl, inl, inr, ⊎_elim}
use Rattle.std.proofs.lemmas.Bool.{eqb-true}
use Rattle.std.proofs.lemmas.List.{take-append-drop, drop_more, take_rest}
use Rattle.std.proofs.lemmas.List.Quantifiers.{position-Some}
use Rattle.std.proofs.lemmas.Iterator.Adapters.{position_from-zero}
use Rattle.std.proofs.Math.Seq.{take-append_seam}
use Rattle.std.specs.List.{position_from}
use Rattle.std.specs.Cmp.Lexicographic.{pointwise}
use Rattle.action_table.specs.declared.action.Action.{Action}
use Rattle.action_table.specs.declared.action.Action.TheVariants.{BasicSynthesis}
use Rattle.action_table.specs.Table.{display_name_of, all_actions}
use Rattle.macro_read.specs.Lines.{Text, IsCommand}

-- the quotation mark
abbrev pub quote : ℕ
quote = 34

-- what stands before the first quotation mark, and what after it
abbrev before_quote : Text → Text
before_quote [] = []
before_quote (byte ∷ text) = if byte == quote then [] else byte ∷ before_quote text

abbrev after_quote : Text → Text
after_quote [] = []
after_quote (byte ∷ text) = if byte == quote then text else after_quote text

-- no name has a quotation mark
quote_after : (action : Action) (rest : Text) → position_from (λ byte. byte == quote) 0 (display_name_of action ++ (codes "\"" ++ rest)) ≡ Some (length (display_name_of action))
quote_after BasicSynthesis rest = refl
quote_after _ rest = refl

pub name_ends : (action : Action) (rest : Text) → position (λ byte. byte == quote) (display_name_of action ++ (codes "\"" ++ rest)) ≡ Some (length (display_name_of action))
name_ends action rest = position_from-zero (λ byte. byte == quote) (display_name_of action ++ (codes "\"" ++ rest)) ∙ quote_after action rest

before-name : (action : Action) (rest : Text) → before_quote (display_name_of action ++ (codes "\"" ++ rest)) ≡ display_name_of action
before-name BasicSynthesis rest = refl
before-name _ rest = refl

after-name : (action : Action) (rest : Text) → after_quote (display_name_of action ++ (codes "\"" ++ rest)) ≡ rest
after-name BasicSynthesis rest = refl
after-name _ rest = refl

-- the action with a display name, searched for in the table
abbrev named : Text → Option Action
named text = find (λ action. pointwise nat_eq (display_name_of action) text) all_actions

named-name : (action : Action) → named (display_name_of action) ≡ Some action
named-name BasicSynthesis = refl
named-name _ = refl

pub name-injective : (a b : Action) → display_name_of a ≡ display_name_of b → a ≡ b
name-injective a b same =
    let both : Some a ≡ Some b = sym (named-name a) ∙ ap named same ∙ named-name b in
    cc

-- what follows an opening quotation mark is a name and what follows it in one way
pub same_name : (a b : Action) (left right : Text) → display_name_of a ++ (codes "\"" ++ left) ≡ display_name_of b ++ (codes "\"" ++ right) → a ≡ b
same_name a b left right same = name-injective a b (sym (before-name a left) ∙ ap before_quote same ∙ before-name b right)

pub same_rest : (a b : Action) (left right : Text) → display_name_of a ++ (codes "\"" ++ left) ≡ display_name_of b ++ (codes "\"" ++ right) → left ≡ right
same_rest a b left right same = sym (after-name a left) ∙ ap after_quote same ∙ after-name b right

-- what a command quotes
quoted-command : (command rest : Text) → IsCommand command → after_quote (command ++ (codes " \"" ++ rest)) ≡ rest
quoted-command command rest (inl is) = ap (λ (t : Text). after_quote (t ++ (codes " \"" ++ rest))) is
quoted-command command rest (inr is) = ap (λ (t : Text). after_quote (t ++ (codes " \"" ++ rest))) is

-- a line is a command and what it quotes in one way
pub same_quoted : (a b left right : Text) → IsCommand a → IsCommand b → a ++ (codes " \"" ++ left) ≡ b ++ (codes " \"" ++ right) → left ≡ right
same_quoted a b left right is other same = sym (quoted-command a left is) ∙ ap after_quote same ∙ quoted-command b right other

-- where there is no quotation mark, no name ends
pub no_name : (text : Text) → position (λ byte. byte == quote) text ≡ None → (action : Action) (rest : Text) → text ≢ display_name_of action ++ (codes "\"" ++ rest)
no_name text none action rest is =
    let found : None ≡ Some (length (display_name_of action)) = sym none ∙ ap (position (λ byte. byte == quote)) is ∙ name_ends action rest in
    cc

-- the name that begins a text stands before the first quotation mark
pub name_before : (text : Text) (end : ℕ) → position (λ byte. byte == quote) text ≡ Some end → (action : Action) (rest : Text) → text ≡ display_name_of action ++ (codes "\"" ++ rest) → display_name_of action ≡ take end text
name_before text end found action rest is =
    let size : Some end ≡ Some (length (display_name_of action)) = sym found ∙ ap (position (λ byte. byte == quote)) is ∙ name_ends action rest in
    let here : end ≡ length (display_name_of action) = cc in
    sym ((λ i. take (here i) (is i)) ∙ take-append_seam (display_name_of action) (codes "\"" ++ rest))

-- a text is cut at its first quotation mark
pub cut_at : (text : Text) (end : ℕ) → position (λ byte. byte == quote) text ≡ Some end → (name : Text) → name ≡ take end text → text ≡ name ++ (codes "\"" ++ take (length text - (end + 1)) (drop (end + 1) text))
cut_at text end found name is =
    let at = position-Some (λ byte. byte == quote) text end 0 found in
    let mark : get_or text end 0 ≡ quote = eqb-true (get_or text end 0) quote at.1 in
    sym (take-append-drop end text) ∙ (λ i. sym is i ++ drop end text) ∙ ap (λ (rest : Text). name ++ rest) (drop_more text end 0 at.0 ∙ (λ i. mark i ∷ sym (take_rest text (end + 1)) i))

-- a line that isn't `/ac` with what it quotes may be `/action` with that
pub other_command : (line : Text) (rest : Option (Bor Text)) → ((quoted : Text) → line ≢ codes "/ac \"" ++ quoted)
    → MatchOption rest ((quoted : Text) → line ≢ codes "/action \"" ++ quoted) (λ quoted. line ≡ codes "/action \"" ++ quoted.now)
    → MatchOption rest ((command quoted : Text) → IsCommand command → line ≢ command ++ (codes " \"" ++ quoted)) (λ quoted. (command : Text) × IsCommand command × (line ≡ command ++ (codes " \"" ++ quoted.now)))
other_command line None first second = λ command quoted is whole.
    ⊎_elim (λ short. first quoted (whole ∙ ap (λ (t : Text). t ++ (codes " \"" ++ quoted)) short))
    (λ long. second quoted (whole ∙ ap (λ (t : Text). t ++ (codes " \"" ++ quoted)) long)) is
other_command line (Some rest) first second = (codes "/action", inr refl, second)

name-itself : (a : Action) → pointwise nat_eq (display_name_of a) (display_name_of a) ≡ true
name-itself BasicSynthesis = refl
name-itself _ = refl

-- a text that isn't the name of an action
pub other_name : (a : Action) (text name : Text) → text ≡ display_name_of a → pointwise nat_eq text name ≡ false → display_name_of a ≢ name
other_name a text name is other same =
    let itself : pointwise nat_eq text name ≡ true = (λ j. pointwise nat_eq (is j) (sym same j)) ∙ name-itself a in
    absurd (cc)
