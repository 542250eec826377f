-- The text that is written for actions names them again.
use Rattle.std.proofs.Common.{◌≡◌, ◌==◌, ◌<◌, ◌≤◌, ◌+◌, ◌*◌, ◌-◌, ◌^◌, ◌%◌, ◌++◌, ◌∷◌, [], ℕ, true, false, ltb, suc, zero, List, length, take, get_or, map, codes, ◌∙◌, ap, sym, refl, subst, inl, inr, arith, append_assoc, append-nil}
use Rattle.std.proofs.lemmas.Bool.{ltb-true, cond-false}
use Rattle.std.proofs.lemmas.Bool.Decides.{nat_tests}
use Rattle.std.proofs.lemmas.Fmt.{decimal_by_steps, decimal_nonempty, length-decimal-le}
use Rattle.std.proofs.lemmas.List.{take_all}
use Rattle.std.proofs.lemmas.List.Elements.{All-nil, All-cons, All-push, All-append, All-get_or, All-weaker}
use Rattle.std.proofs.lemmas.List.Splits.{slice_split_at}
use Rattle.std.proofs.lemmas.List.Sums.{AllPass-from_list_all}
use Rattle.std.proofs.Math.Seq.{take-add}
use Rattle.std.specs.Char.{IsAsciiDigit}
use Rattle.std.specs.Fmt.{decimal}
use Rattle.std.specs.Fork.{slice_chunk}
use Rattle.std.specs.List.{All, flat_map, list_all, slice_split}
use Rattle.std.specs.Str.Lines.{strip_carriage_return}
use Rattle.action_table.specs.declared.action.Action.{Action}
use Rattle.action_table.specs.declared.action.Action.TheVariants.{BasicSynthesis}
use Rattle.action_table.specs.Table.{display_name_of}
use Rattle.macro_text.proofs.Cuts.{below-more}
use Rattle.macro_text.specs.Blocks.{action_line, block_count, block_length, block_text, blocks_below, blocks_of, macro_line}
use Rattle.action_table.specs.Table.{action_seconds}
use Rattle.macro_read.specs.declared.lines.Line.{Line}
use Rattle.macro_read.specs.declared.lines.Line.TheVariants.{Empty, Heading, Names}
use Rattle.macro_read.specs.Lines.{Text, line_end, lines_of, IsNumber, IsActionLine, IsOfKind}
use Rattle.macro_read.specs.Reading.{AllName, IsMacroText, named_then}

-- whatever stands after it, a text names these actions
abbrev Writes : Text → List Action → Type 0
Writes text actions = (rest : Text) (more : List Action) → AllName (lines_of rest) more → AllName (lines_of (text ++ rest)) (actions ++ more)

writes-append : (s t : Text) (a b : List Action) → Writes s a → Writes t b → Writes (s ++ t) (a ++ b)
writes-append s t a b first second = λ rest more is.
    subst (λ (text : Text). AllName (lines_of text) ((a ++ b) ++ more)) (sym (append_assoc s t rest))
    (subst (AllName (lines_of (s ++ (t ++ rest)))) (sym (append_assoc a b more)) (first (t ++ rest) (b ++ more) (second rest more is)))

-- a byte that ends no line
abbrev IsInside : ℕ → Type 0
IsInside byte = 13 < byte

no_end : (byte : ℕ) → IsInside byte → (byte == line_end) ≡ false
no_end byte inside = grind (arith, nat_tests)

no_return : (byte : ℕ) → IsInside byte → (byte == 13) ≡ false
no_return byte inside = grind (arith, nat_tests)

-- such a line stays as it is
strip-inside : (line : Text) → All IsInside line → strip_carriage_return line ≡ line
strip-inside [] all = refl
strip-inside (byte ∷ line) all =
    let last : IsInside (get_or (byte ∷ line) (length (byte ∷ line) - 1) 0) = All-get_or IsInside (byte ∷ line) (length (byte ∷ line) - 1) 0 (omega arith) all in
    cond-false _ _ _ (no_return _ last)

then-append : (kind : Line) (actions : List Action) → named_then kind [] ++ actions ≡ named_then kind actions
then-append Empty actions = refl
then-append Heading actions = refl
then-append (Names action) actions = refl

writes-line : (line : Text) (kind : Line) → All IsInside line → IsOfKind line kind → Writes (line ++ (line_end ∷ [])) (named_then kind [])
writes-line line kind all of_kind = λ rest more is.
    let cut : slice_split (λ byte. byte == line_end) ((line ++ (line_end ∷ [])) ++ rest) ≡ line ∷ slice_split (λ byte. byte == line_end) rest =
    ap (slice_split (λ byte. byte == line_end)) (append_assoc line (line_end ∷ []) rest)
    ∙ slice_split_at (λ byte. byte == line_end) line line_end rest (All-weaker IsInside (λ byte. (byte == line_end) ≡ false) no_end line all) refl in
    let lines : lines_of ((line ++ (line_end ∷ [])) ++ rest) ≡ line ∷ lines_of rest =
    ap (map strip_carriage_return) cut ∙ ap (λ (l : Text). l ∷ lines_of rest) (strip-inside line all) in
    subst (λ (ls : List Text). AllName ls (named_then kind [] ++ more)) (sym lines) (kind, (more, (of_kind, is, then-append kind more)))

-- ---- numbers
abbrev AreDigits : ℕ → Text → Type 0
AreDigits n text = All IsAsciiDigit text

digits-decimal : (n : ℕ) → n < 2 ^ 64 → All IsAsciiDigit (decimal n)
digits-decimal = decimal_by_steps AreDigits
    (λ n small. All-cons IsAsciiDigit (48 + n) [] (omega arith, omega arith) (All-nil IsAsciiDigit))
    (λ n ds large all. All-push IsAsciiDigit ds (48 + n % 10) all (omega arith, omega arith))

number-decimal : (most n : ℕ) → 0 < most → n < 10 ^ most → n < 2 ^ 64 → IsNumber most (decimal n)
number-decimal most n some short small = record {
  some = decimal_nonempty n small;
  few = length-decimal-le most n some short small;
  digits = digits-decimal n small;
}

inside-decimal : (n : ℕ) → n < 2 ^ 64 → All IsInside (decimal n)
inside-decimal n small = All-weaker IsAsciiDigit IsInside (λ digit is. omega (arith, is.0)) (decimal n) (digits-decimal n small)

-- ---- the two kinds of line
inside : (text : Text) → list_all (λ byte. ltb 13 byte) text ≡ true → All IsInside text
inside text passes = All-weaker (λ byte. ltb 13 byte ≡ true) IsInside (λ byte is. ltb-true 13 byte is) text (AllPass-from_list_all (λ byte. ltb 13 byte) text passes)

inside-name : (action : Action) → list_all (λ byte. ltb 13 byte) (display_name_of action) ≡ true
inside-name BasicSynthesis = refl
inside-name _ = refl

pub few_seconds : (action : Action) → ltb (action_seconds action) 10 ≡ true
unfolding action_seconds
few_seconds BasicSynthesis = refl
few_seconds _ = refl

writes-heading : (number : ℕ) → number < 1000 → Writes (macro_line number) []
writes-heading number few =
    writes-line (codes "macro " ++ decimal number) Heading
    (All-append IsInside (codes "macro ") (decimal number) (inside (codes "macro ") refl) (inside-decimal number (omega arith)))
    (record { number = decimal number; is_number = number-decimal 3 number (omega arith) few (omega arith); text = refl })

-- what stands after the name
abbrev wait_of : Action → Text
wait_of action = codes " <wait." ++ (decimal (action_seconds action) ++ codes ">")

-- the line without its LF
abbrev line_for : Action → Text
line_for action = codes "/ac" ++ (codes " \"" ++ (display_name_of action ++ (codes "\"" ++ wait_of action)))

line_for-end : (action : Action) → action_line action ≡ line_for action ++ (line_end ∷ [])
line_for-end action =
    let seconds : Text = decimal (action_seconds action) in
    let name : Text = display_name_of action in
    ap (λ (t : Text). codes "/ac \"" ++ t) (ap (λ (t : Text). name ++ (codes "\" <wait." ++ t)) (sym (append_assoc seconds (codes ">") (line_end ∷ []))) ∙ sym (append_assoc name (codes "\"" ++ wait_of action) (line_end ∷ [])))

inside-wait : (action : Action) → All IsInside (wait_of action)
inside-wait action =
    let seconds : ℕ = action_seconds action in
    let few : seconds < 10 = ltb-true seconds 10 (few_seconds action) in
    All-append IsInside (codes " <wait.") (decimal seconds ++ codes ">") (inside (codes " <wait.") refl)
    (All-append IsInside (decimal seconds) (codes ">") (inside-decimal seconds (omega arith)) (inside (codes ">") refl))

inside-line : (action : Action) → All IsInside (line_for action)
inside-line action =
    let name : Text = display_name_of action in
    All-append IsInside (codes "/ac \"") (name ++ (codes "\"" ++ wait_of action)) (inside (codes "/ac \"") refl)
    (All-append IsInside name (codes "\"" ++ wait_of action) (inside name (inside-name action))
    (All-append IsInside (codes "\"") (wait_of action) (inside (codes "\"") refl) (inside-wait action)))

is_action_line : (action : Action) → IsActionLine action (line_for action)
is_action_line action =
    let seconds : ℕ = action_seconds action in
    let few : seconds < 10 = ltb-true seconds 10 (few_seconds action) in
    record {
      command = codes "/ac";
      wait = wait_of action;
      is_command = inl refl;
      is_wait = inr (record { number = decimal seconds; is_number = number-decimal 2 seconds (omega arith) (omega arith) (omega arith); wait = refl });
      text = refl;
    }

writes-action : (action : Action) → Writes (action_line action) (action ∷ [])
writes-action action =
    subst (λ (text : Text). Writes text (action ∷ [])) (sym (line_for-end action)) (writes-line (line_for action) (Names action) (inside-line action) (is_action_line action))

-- ---- the blocks
writes-lines : (actions : List Action) → Writes (flat_map action_line actions) actions
writes-lines [] = λ rest more is. is
writes-lines (action ∷ actions) = writes-append (action_line action) (flat_map action_line actions) (action ∷ []) actions (writes-action action) (writes-lines actions)

writes-block : (number : ℕ) (actions : List Action) → number < 1000 → Writes (block_text number actions) actions
writes-block number actions few = writes-append (macro_line number) (flat_map action_line actions) [] actions (writes-heading number few) (writes-lines actions)

writes-below : (actions : List Action) (n : ℕ) → n < 1000 → Writes (blocks_below actions n) (take (n * block_length) actions)
writes-below actions zero few = λ rest more is. is
writes-below actions (suc n) few =
    let next : suc n ≡ n + 1 = omega arith in
    let place : suc n * block_length ≡ n * block_length + block_length = omega arith in
    let texts : blocks_below actions (suc n) ≡ blocks_below actions n ++ block_text (n + 1) (slice_chunk actions block_length n) = ap (blocks_below actions) next ∙ below-more actions n in
    let parts : take (suc n * block_length) actions ≡ take (n * block_length) actions ++ slice_chunk actions block_length n =
    ap (λ k. take k actions) place ∙ take-add (n * block_length) block_length actions in
    let both = writes-append (blocks_below actions n) (block_text (n + 1) (slice_chunk actions block_length n)) (take (n * block_length) actions) (slice_chunk actions block_length n)
    (writes-below actions n (omega arith)) (writes-block (n + 1) (slice_chunk actions block_length n) (omega arith)) in
    subst (Writes (blocks_below actions (suc n))) (sym parts) (subst (λ (text : Text). Writes text (take (n * block_length) actions ++ slice_chunk actions block_length n)) (sym texts) both)

-- the blocks of at most 1000 actions name these actions
pub named-again : (actions : List Action) → length actions ≤ 1000 → IsMacroText (blocks_of actions) actions
named-again actions few =
    let count : ℕ = block_count actions in
    let all : take (count * block_length) actions ≡ actions = take_all (count * block_length) actions (omega arith) in
    let written = writes-below actions count (omega arith) [] [] (Empty, ([], (refl, refl, refl))) in
    subst (λ (text : Text). AllName (lines_of text) actions) (append-nil (blocks_of actions))
    (subst (AllName (lines_of (blocks_of actions ++ []))) (append-nil (take (count * block_length) actions) ∙ all) written)
