-- The first line of a text, and the first line `---` of an input.
use Rattle.std.proofs.Common.{◌≡◌, ◌==◌, ◌<◌, ◌≤◌, ◌+◌, ◌-◌, ◌++◌, ◌∷◌, ◌⊎◌, [], ℕ, Bool, true, false, cond, Some, None, suc, length, take, drop, position, codes, ◌∙◌, ap, sym, refl, subst, inl, inr, ⊎_elim, arith, append_assoc}
use Rattle.std.proofs.lemmas.Bool.{eqb-true, cases_lt}
use Rattle.std.proofs.lemmas.Iterator.Adapters.{position_from-zero}
use Rattle.std.proofs.lemmas.List.{take_at, drop_at, take_all, drop_all, take-append-drop, drop-append-le, take_rest, length-take-le, length-take, length-drop, length-append, same_from_push, drop-drop}
use Rattle.std.proofs.Math.Seq.{take-add}
use Rattle.std.specs.List.{position_from}
use Rattle.macro_read.specs.Lines.{Text, line_end}
use Rattle.macro_read.specs.FirstLine.{first_line_length}
use Rattle.macro_read.specs.Mark.{IsWholeLines, IsMark, IsMarkLine, IsMarkedBetween, IsDivided}

-- ---- how long the first line is
found-from : (text : Text) (from place : ℕ) → position_from (λ byte. byte == line_end) from text ≡ Some place → from + first_line_length text ≡ place + 1
found-from [] from place found = cc
found-from (byte ∷ text) from place found = step (byte == line_end) (found-from text (from + 1) place) found
  where
    step : (b : Bool) → (position_from (λ x. x == line_end) (from + 1) text ≡ Some place → from + 1 + first_line_length text ≡ place + 1)
        → cond b (Some from) (position_from (λ x. x == line_end) (from + 1) text) ≡ Some place → from + cond b 1 (first_line_length text + 1) ≡ place + 1
    step true later here = let same : from ≡ place = cc in omega arith
    step false later here = let same : from + 1 + first_line_length text ≡ place + 1 = later here in omega arith

none-from : (text : Text) (from : ℕ) → position_from (λ byte. byte == line_end) from text ≡ None → first_line_length text ≡ length text
none-from [] from none = refl
none-from (byte ∷ text) from none = step (byte == line_end) (none-from text (from + 1)) none
  where
    step : (b : Bool) → (position_from (λ x. x == line_end) (from + 1) text ≡ None → first_line_length text ≡ length text)
        → cond b (Some from) (position_from (λ x. x == line_end) (from + 1) text) ≡ None → cond b 1 (first_line_length text + 1) ≡ suc (length text)
    step true later here = cc
    step false later here = let same : first_line_length text ≡ length text = later here in omega arith

pub found-length : (text : Text) (place : ℕ) → position (λ byte. byte == line_end) text ≡ Some place → first_line_length text ≡ place + 1
found-length text place found = let sum : 0 + first_line_length text ≡ place + 1 = found-from text 0 place (sym (position_from-zero (λ byte. byte == line_end) text) ∙ found) in omega arith

pub none-length : (text : Text) → position (λ byte. byte == line_end) text ≡ None → take (first_line_length text) text ≡ text
none-length text none =
    let whole : first_line_length text ≡ length text = none-from text 0 (sym (position_from-zero (λ byte. byte == line_end) text) ∙ none) in
    take_all (first_line_length text) text (omega arith)

pub line-fits : (text : Text) → first_line_length text ≤ length text
line-fits [] = omega arith
line-fits (byte ∷ text) = step (byte == line_end) (line-fits text)
  where
    step : (b : Bool) → first_line_length text ≤ length text → cond b 1 (first_line_length text + 1) ≤ suc (length text)
    step true fits = omega arith
    step false fits = omega arith

pub line-some : (text : Text) → 0 < length text → 0 < first_line_length text
line-some [] some = omega arith
line-some (byte ∷ text) some = step (byte == line_end)
  where
    step : (b : Bool) → 0 < cond b 1 (first_line_length text + 1)
    step true = omega arith
    step false = omega arith

-- the first line is all, or ends with LF
pub line-ends : (text : Text) → (first_line_length text ≡ length text) ⊎ ((most : Text) × (take (first_line_length text) text ≡ most ++ (line_end ∷ [])))
line-ends [] = inl refl
line-ends (byte ∷ text) = step (byte == line_end) (eqb-true byte line_end) (line-ends text)
  where
    step : (b : Bool) → (b ≡ true → byte ≡ line_end) → (first_line_length text ≡ length text) ⊎ ((most : Text) × (take (first_line_length text) text ≡ most ++ (line_end ∷ [])))
        → (cond b 1 (first_line_length text + 1) ≡ suc (length text)) ⊎ ((most : Text) × (take (cond b 1 (first_line_length text + 1)) (byte ∷ text) ≡ most ++ (line_end ∷ [])))
    step true is later = inr ([], ap (λ x. x ∷ []) (is refl))
    step false is (inl all) = inl (omega arith)
    step false is (inr ended) = let more : first_line_length text + 1 ≡ suc (first_line_length text) = omega arith in
        inr (byte ∷ ended.0, ap (λ n. take n (byte ∷ text)) more ∙ ap (λ (t : Text). byte ∷ t) ended.1)

-- it ends at the first LF
line-before : (text after : Text) → first_line_length (text ++ (line_end ∷ after)) ≤ length text + 1
line-before [] after = omega arith
line-before (byte ∷ text) after = step (byte == line_end) (line-before text after)
  where
    step : (b : Bool) → first_line_length (text ++ (line_end ∷ after)) ≤ length text + 1 → cond b 1 (first_line_length (text ++ (line_end ∷ after)) + 1) ≤ suc (length text) + 1
    step true later = omega arith
    step false later = omega arith

-- the first line of what is left of an input, as the code takes it
pub line-here : (input line : Text) (start : ℕ) → line ≡ take (first_line_length (take (length input - start) (drop start input))) (take (length input - start) (drop start input))
    → line ≡ take (first_line_length (drop start input)) (drop start input)
line-here input line start is = is ∙ ap (λ (rest : Text). take (first_line_length rest) rest) (take_rest input start)

pub length-here : (input line : Text) (start : ℕ) → line ≡ take (first_line_length (take (length input - start) (drop start input))) (take (length input - start) (drop start input))
    → length line ≡ first_line_length (drop start input)
length-here input line start is = ap length (line-here input line start is) ∙ length-take-le (first_line_length (drop start input)) (drop start input) (line-fits (drop start input))

-- ---- the line `---`
-- where a mark begins a text, it is the first line
mark-line : (mark after rest : Text) → IsMark mark after → rest ≡ mark ++ after → IsMarkLine (take (first_line_length rest) rest)
mark-line mark after rest (inl ended) is = inr (inl (ap (λ (t : Text). take (first_line_length t) t) (is ∙ ap (λ (t : Text). t ++ after) ended)))
mark-line mark after rest (inr (inl ended)) is = inr (inr (ap (λ (t : Text). take (first_line_length t) t) (is ∙ ap (λ (t : Text). t ++ after) ended)))
mark-line mark after rest (inr (inr last)) is = inl (ap (λ (t : Text). take (first_line_length t) t) (is ∙ (λ i. last.0 i ++ last.1 i)))

-- where the first line is the mark, it marks what follows it
line-mark : (rest : Text) → IsMarkLine (take (first_line_length rest) rest) → IsMark (take (first_line_length rest) rest) (drop (first_line_length rest) rest)
line-mark rest (inr (inl is)) = inl is
line-mark rest (inr (inr is)) = inr (inl is)
line-mark rest (inl is) = ⊎_elim
    (λ all. inr (inr (is, drop_all (first_line_length rest) rest (omega arith))))
    (λ ended. let last : line_end ≡ 45 = (same_from_push ended.0 (codes "--") line_end 45 (sym ended.1 ∙ is)).1 in absurd (omega arith)) (line-ends rest)

-- a line `---` that begins at a place or later begins there or after the line that begins there
pub later-mark : (input before after : Text) (start : ℕ) → IsMarkedBetween input before after → start ≤ length before
    → (IsMarkLine (take (first_line_length (drop start input)) (drop start input)) → ⊥) → start + first_line_length (drop start input) ≤ length before
later-mark input before after start marked from other = ⊎_elim past here (cases_lt start (length before))
  where
    here : length before ≤ start → start + first_line_length (drop start input) ≤ length before
    here at =
        let same : length before ≡ start = omega arith in
        let rest : drop start input ≡ marked.mark ++ after = ap (drop start) marked.parts ∙ drop_at before (marked.mark ++ after) start same in
        absurd (other (mark-line marked.mark after (drop start input) marked.is_mark rest))

    past : start < length before → start + first_line_length (drop start input) ≤ length before
    past lt = ⊎_elim
        (λ none. let nothing : length before ≡ 0 = ap length none in absurd (omega arith))
        (λ lines. inside lines.0 lines.1 lt) marked.whole
      where
        inside : (most : Text) → before ≡ most ++ (line_end ∷ []) → start < length before → start + first_line_length (drop start input) ≤ length before
        inside most is lt =
            let size : length before ≡ length most + 1 = ap length is ∙ length-append most (line_end ∷ []) in
            let fits : start ≤ length most = omega arith in
            let whole : input ≡ most ++ (line_end ∷ (marked.mark ++ after)) =
            marked.parts ∙ ap (λ (t : Text). t ++ (marked.mark ++ after)) is ∙ append_assoc most (line_end ∷ []) (marked.mark ++ after) in
            let rest : drop start input ≡ drop start most ++ (line_end ∷ (marked.mark ++ after)) =
            ap (drop start) whole ∙ drop-append-le start most (line_end ∷ (marked.mark ++ after)) fits in
            let short : first_line_length (drop start most ++ (line_end ∷ (marked.mark ++ after))) ≤ length (drop start most) + 1 = line-before (drop start most) (marked.mark ++ after) in
            omega (arith, ap first_line_length rest, length-drop start most)

-- the mark is where the line is
pub divided : (input : Text) (start : ℕ) → start < length input → IsWholeLines (take start input) → ((before after : Text) → IsMarkedBetween input before after → start ≤ length before)
    → IsMarkLine (take (first_line_length (drop start input)) (drop start input)) → IsDivided input (take start input) (drop (start + first_line_length (drop start input)) input)
divided input start lt whole passed is =
    let rest : Text = drop start input in
    let n : ℕ = first_line_length rest in
    let after : drop n rest ≡ drop (start + n) input = drop-drop n start input in
    let place : length (take start input) ≡ start = length-take start input ∙ omega arith in
    record {
      marked = record {
        mark = take n rest;
        is_mark = subst (IsMark (take n rest)) after (line-mark rest is);
        whole = whole;
        parts = sym (take-append-drop start input) ∙ ap (λ (t : Text). take start input ++ t) (sym (take-append-drop n rest) ∙ ap (λ (t : Text). take n rest ++ t) after);
      };
      first = λ earlier later marked. let from : start ≤ length earlier = passed earlier later marked in omega arith;
    }

-- one line more
pub whole-more : (input : Text) (start : ℕ) → start < length input → IsWholeLines (take start input) → start + first_line_length (drop start input) < length input
    → IsWholeLines (take (start + first_line_length (drop start input)) input)
whole-more input start lt whole inside =
    let rest : Text = drop start input in
    ⊎_elim
    (λ all. absurd (omega (arith, length-drop start input)))
    (λ ended. inr (take start input ++ ended.0, take-add start (first_line_length rest) input ∙ ap (λ (t : Text). take start input ++ t) ended.1 ∙ sym (append_assoc (take start input) ended.0 (line_end ∷ []))))
    (line-ends rest)

-- a mark has a place in the input
pub mark-inside : (input before after : Text) → IsMarkedBetween input before after → length before < length input
mark-inside input before after marked =
    let size : length input ≡ length before + (length marked.mark + length after) = ap length marked.parts ∙ length-append before (marked.mark ++ after) ∙ ap (λ n. length before + n) (length-append marked.mark after) in
    let some : 3 ≤ length marked.mark = mark-size marked.mark after marked.is_mark in
    omega arith
  where
    mark-size : (mark rest : Text) → IsMark mark rest → 3 ≤ length mark
    mark-size mark rest (inl is) = let n : length mark ≡ 4 = ap length is in omega arith
    mark-size mark rest (inr (inl is)) = let n : length mark ≡ 5 = ap length is in omega arith
    mark-size mark rest (inr (inr last)) = let n : length mark ≡ 3 = ap length last.0 in omega arith

-- ---- an input is divided in one way at most
-- the text is a mark and what follows it
abbrev AfterMark : Text → Text → Type 0
AfterMark whole after = (whole ≡ codes "---\n" ++ after) ⊎ ((whole ≡ codes "---\r\n" ++ after) ⊎ ((whole ≡ codes "---") × (after ≡ [])))

-- a mark and what follows it make a text that tells the mark
ended-of : (mark after : Text) → IsMark mark after → AfterMark (mark ++ after) after
ended-of mark after (inl is) = inl (ap (λ (t : Text). t ++ after) is)
ended-of mark after (inr (inl is)) = inr (inl (ap (λ (t : Text). t ++ after) is))
ended-of mark after (inr (inr last)) = inr (inr ((λ i. last.0 i ++ last.1 i), last.1))

same-after : (whole after rest : Text) → AfterMark whole after → AfterMark whole rest → after ≡ rest
same-after whole after rest (inl is) (inl was) = cc
same-after whole after rest (inl is) (inr (inl was)) = cc
same-after whole after rest (inl is) (inr (inr was)) = cc
same-after whole after rest (inr (inl is)) (inl was) = cc
same-after whole after rest (inr (inl is)) (inr (inl was)) = cc
same-after whole after rest (inr (inl is)) (inr (inr was)) = cc
same-after whole after rest (inr (inr is)) (inl was) = cc
same-after whole after rest (inr (inr is)) (inr (inl was)) = cc
same-after whole after rest (inr (inr is)) (inr (inr was)) = is.1 ∙ sym was.1

pub divided-once : (input before after earlier later : Text) → IsDivided input before after → IsDivided input earlier later → (before ≡ earlier) × (after ≡ later)
divided-once input before after earlier later is other =
    let here : length before ≤ length earlier = is.first earlier later other.marked in
    let there : length earlier ≤ length before = other.first before after is.marked in
    let size : length earlier ≡ length before = omega arith in
    let whole : before ++ (is.marked.mark ++ after) ≡ earlier ++ (other.marked.mark ++ later) = sym is.marked.parts ∙ other.marked.parts in
    let fronts : before ≡ earlier = sym (take_at before (is.marked.mark ++ after) (length before) refl) ∙ ap (take (length before)) whole ∙ take_at earlier (other.marked.mark ++ later) (length before) size in
    let rests : is.marked.mark ++ after ≡ other.marked.mark ++ later =
    sym (drop_at before (is.marked.mark ++ after) (length before) refl) ∙ ap (drop (length before)) whole ∙ drop_at earlier (other.marked.mark ++ later) (length before) size in
    let after_other : AfterMark (is.marked.mark ++ after) later =
    subst (λ (text : Text). AfterMark text later) (sym rests) (ended-of other.marked.mark later other.marked.is_mark) in
    (fronts, same-after (is.marked.mark ++ after) after later (ended-of is.marked.mark after is.marked.is_mark) after_other)
