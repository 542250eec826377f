-- What clap makes of words, where a command has options alone, each with one value.
use Rattle.std.proofs.Common.{◌≡◌, ℕ, ◌+◌, ◌&&◌, ◌||◌, Bool, true, false, not, cond, eqb, List, [], ◌∷◌, ◌++◌, map, length, Option, Some, None, option_map, is_some, find, fold, refl, sym, ap, ap₂, ◌∙◌, subst, arith, true≢false, append-nil, option_and_then, nat_lt, take, get_or, ◌<◌, zero, suc, inl, inr}
use Rattle.std.specs.Prelude.{count_by, slice_get}
use Rattle.std.specs.Borrow.{Bor}
use Rattle.std.specs.List.{list_any, list_all}
use Rattle.std.specs.Option.{option_map_or}
use Rattle.std.specs.Str.{bytes_eq}
use Rattle.clap.specs.declared.error.kind.ErrorKind.{ErrorKind}
use Rattle.clap.specs.declared.error.kind.ErrorKind.TheVariants as kind
use Rattle.std.proofs.lemmas.Slice.Eq.{bytes_eq-Decides}
use Rattle.clap.specs.Lexer.{long_of, short_of, strip_byte, long_of_rest, short_of_rest}
use Rattle.clap.specs.Walk.{rows_of, first_of, is_early_multiple, walk, walk_from, with_default, finished, nothing_held, used_by_id, pushed, option_word, Step, next, value, trailing, positional, subcommand_or_other, long_or_other, short_or_plain, after_flag, long_met, reacted, after_step, Held, Row, Rule, Walk, Waiting, idle, option, walked, settled, used, has_row, arg_by_long, arg_by_id, arg_by_index, word_met, subcommand_met, long_word, plain_word, reading_by, at_row, more_values}
use Rattle.clap.specs.Kinds.{HasKind, Kinds, IsAmong, or_else, check_kinds}
use Rattle.clap.specs.Faults.{is_free_app, defaults_fault, given_default_fault, built_fault, level_fault, check_fault, positional_fault, stray_fault, other_fault, flag_word_fault, bundle_fault, react_fault, use_fault, walk_fault, turn_fault, word_fault, step_fault, settle_fault, long_fault, fault_of, is_simple_and_free}
use Rattle.clap.specs.Takes.{is_given}
use Rattle.clap.proofs.FaultLemmas.{leaf_fault}
use Rattle.clap.proofs.WalkLemmas.{both, first_value-rows}
use Rattle.clap.specs.Matches.{found_of}
use Rattle.clap.specs.Values.{kind_of}
use Rattle.clap.specs.declared.error.Error.{Error}
use Rattle.clap.specs.declared.parser.matches.ArgMatches.{ArgMatches}
use Rattle.clap.specs.Simple.{HasMatchesOf, with_rule, App, Shape, new_shape, filled, filled_from, with_index, built, matches_of, is_simple, names_of}
use Rattle.clap.specs.declared.parser.matches.ValueSource.TheVariants.{CommandLine}
use Rattle.solve_words.specs.Clap.{raw, app_with, app}
use Rattle.solve_words.specs.Words.{FindsOptions}
use Rattle.solve_words.specs.Form.{Text, Given, value_of, has, is_option, is_hyphened, add, on_word, given_from, given_in, is_stray}

-- ---- the command

-- the same once it is built
abbrev pub named : Text → Rule
named name = with_index 1 (filled (raw name))

abbrev pub top : Text → List Rule → Shape
top name rules = record (new_shape name) { rules = rules; disable_help_flag = true; disable_help_subcommand = true; no_binary_name = true; is_built = true }

filled_is : (i : ℕ) (names : List Text) → filled_from i (map raw names) ≡ map named names
filled_is i [] = refl
filled_is i (n ∷ ns) = ap (λ rs. named n ∷ rs) (filled_is i ns)

pub built_is : (name : Text) (names : List Text) → built (app_with name (map raw names)) ≡ record { top = top name (map named names); subs = [] }
built_is name names = ap (λ (rs : List Rule). let a : App = record { top = top name rs; subs = [] } in a) (filled_is 1 names)

-- ---- texts and tests

same_text : (a b : Text) → bytes_eq a b ≡ true → a ≡ b
same_text a b e = (bytes_eq-Decides a b).0 e

text_same : (a : Text) → bytes_eq a a ≡ true
text_same a = (bytes_eq-Decides a a).1 refl

-- ---- kinds

abbrev pub passes : Kinds → Bool
passes [] = true
passes (k ∷ ks) = false

passes-or_else : (a b : Kinds) → passes (or_else a b) ≡ (passes a && passes b)
passes-or_else [] b = refl
passes-or_else (k ∷ ks) b = refl

and_assoc : (a b c : Bool) → (a && b && c) ≡ (a && (b && c))
and_assoc true b c = refl
and_assoc false b c = refl

and_true : (a : Bool) → (a && true) ≡ a
and_true true = refl
and_true false = refl

cond_and : {X : Type 0} (a b : Bool) (x y : X) → cond (a && b) x y ≡ cond a (cond b x y) y
cond_and true b x y = refl
cond_and false b x y = refl

first_clear : (word : Text) (rest : List Text) → list_any is_stray (word ∷ rest) ≡ false → is_stray word ≡ false
first_clear word rest clear = go (is_stray word) refl
  where
    go : (b : Bool) → is_stray word ≡ b → b ≡ false
    go false e = refl
    go true e = let some : list_any is_stray (word ∷ rest) ≡ true = ap (λ b. b || list_any is_stray rest) e in cc

rest_clear : (word : Text) (rest : List Text) → list_any is_stray (word ∷ rest) ≡ false → list_any is_stray rest ≡ false
rest_clear word rest clear = ap (λ b. b || list_any is_stray rest) (sym (first_clear word rest clear)) ∙ clear

-- ---- finding an option

abbrev pub rules : List Text → List Rule
rules names = map named names

by_long : (ns : List Text) (n : Text) → arg_by_long (rules ns) n ≡ cond (is_option ns n) (Some (named n)) None
by_long [] n = refl
by_long (m ∷ ms) n = go (bytes_eq m n) refl (by_long ms n)
  where
    go : (b : Bool) → bytes_eq m n ≡ b → arg_by_long (rules ms) n ≡ cond (is_option ms n) (Some (named n)) None
        → cond (b || false) (Some (named m)) (arg_by_long (rules ms) n) ≡ cond (b || is_option ms n) (Some (named n)) None
    go true e rest = ap (λ t. Some (named t)) (same_text m n e)
    go false e rest = rest

by_id : (ns : List Text) (n : Text) → arg_by_id (rules ns) n ≡ cond (is_option ns n) (Some (named n)) None
by_id [] n = refl
by_id (m ∷ ms) n = go (bytes_eq m n) refl (by_id ms n)
  where
    go : (b : Bool) → bytes_eq m n ≡ b → arg_by_id (rules ms) n ≡ cond (is_option ms n) (Some (named n)) None
        → cond b (Some (named m)) (arg_by_id (rules ms) n) ≡ cond (b || is_option ms n) (Some (named n)) None
    go true e rest = ap (λ t. Some (named t)) (same_text m n e)
    go false e rest = rest

no_position : (ns : List Text) (i : ℕ) → arg_by_index (rules ns) i ≡ None
no_position [] i = refl
no_position (m ∷ ms) i = no_position ms i

-- ---- the rows

abbrev pub row : Given → Row
row p = record { id = p.0; values = p.1 ∷ []; count = None; source = Some CommandLine; reading = reading_by (named p.0) }

abbrev pub rows : List Given → List Row
rows given = map row given

has_row_is : (given : List Given) (n : Text) → has_row n (rows given) ≡ has n given
has_row_is [] n = refl
has_row_is (p ∷ ps) n = ap (λ b. bytes_eq p.0 n || b) (has_row_is ps n)

-- no row of the id: nothing is changed, and `missing` comes at the end
absent : (given : List Given) (n : Text) (change : Row → List Row) (missing : List Row) → has n given ≡ false → at_row n change missing (rows given) ≡ rows given ++ missing
absent [] n change missing e = refl
absent (p ∷ ps) n change missing e = go (bytes_eq p.0 n) (has n ps) refl refl e (absent ps n change missing)
  where
    go : (b c : Bool) → bytes_eq p.0 n ≡ b → has n ps ≡ c → (b || c) ≡ false → (has n ps ≡ false → at_row n change missing (rows ps) ≡ rows ps ++ missing)
        → cond b (change (row p) ++ rows ps) (row p ∷ at_row n change missing (rows ps)) ≡ row p ∷ (rows ps ++ missing)
    go true c eb ec e rest = absurd (true≢false e)
    go false true eb ec e rest = absurd (true≢false e)
    go false false eb ec e rest = ap (λ rs. row p ∷ rs) (rest ec)

rows-append : (given : List Given) (p : Given) → rows given ++ row p ∷ [] ≡ rows (given ++ p ∷ [])
rows-append [] p = refl
rows-append (q ∷ qs) p = ap (λ rs. row q ∷ rs) (rows-append qs p)

used_new : (given : List Given) (n v : Text) → has n given ≡ false → used (named n) (v ∷ []) (rows given) ≡ rows (given ++ (n, v) ∷ [])
used_new given n v e =
    ap (λ rs. at_row n (more_values CommandLine (v ∷ [])) (row (n, v) ∷ []) rs) (absent given n (λ _. []) [] e ∙ append-nil (rows given))
    ∙ absent given n (more_values CommandLine (v ∷ [])) (row (n, v) ∷ []) e
    ∙ rows-append given (n, v)

-- ---- a walk

abbrev pub held : List Row → Option (Text × List Text) → Held
held rs pending = record { rows = rs; pending = pending; skip = 0 }

abbrev pub at : List Row → Option (Text × List Text) → Waiting → Walk
at rs pending waiting = record { held = held rs pending; waiting = waiting; position = 1; is_trailing = false; stopped = None }

module _ (title : Text) (names : List Text) where
  abbrev pub shape : Shape
  shape = top title (rules names)

  abbrev pub fault_from : Walk → List Text → Kinds
  fault_from w words = or_else (walk_fault shape [] w words) (settle_fault (rules names) false (fold (walked (rules names) []) w words).held)

  -- the rows at the end, if nothing fails on the way
  abbrev pub outcome : Walk → List Text → Option (List Row)
  outcome w words = cond (passes (fault_from w words)) (Some (settled (rules names) (fold (walked (rules names) []) w words).held).rows) None

  step_passes : (w : Walk) (word : Text) (rest : List Text)
      → passes (fault_from w (word ∷ rest)) ≡ (passes (turn_fault shape [] w word) && passes (fault_from (walked (rules names) [] w word) rest))
  unfolding walk_fault
  step_passes w word rest =
      let t = turn_fault shape [] w word in
      let next = walk_fault shape [] (walked (rules names) [] w word) rest in
      let end = settle_fault (rules names) false (fold (walked (rules names) []) (walked (rules names) [] w word) rest).held in
      passes-or_else (or_else t next) end ∙ ap (λ b. b && passes end) (passes-or_else t next) ∙ and_assoc (passes t) (passes next) (passes end)
      ∙ ap (λ b. passes t && b) (sym (passes-or_else next end))

  step : (w : Walk) (word : Text) (rest : List Text)
      → outcome w (word ∷ rest) ≡ cond (passes (turn_fault shape [] w word)) (outcome (walked (rules names) [] w word) rest) None
  step w word rest =
      let end = Some (settled (rules names) (fold (walked (rules names) []) w (word ∷ rest)).held).rows in
      ap (λ b. cond b end None) (step_passes w word rest)
      ∙ cond_and (passes (turn_fault shape [] w word)) (passes (fault_from (walked (rules names) [] w word) rest)) end None

  -- ---- what a word is

  abbrev dashes : Text
  dashes = 45 ∷ 45 ∷ []

  no_subcommand : (waiting : Waiting) (word : Text) → subcommand_met [] waiting word ≡ None
  no_subcommand idle word = refl
  no_subcommand (option n) word = refl
  no_subcommand positional word = refl

  long_not_dashes : (word : Text) (p : Text × Option Text) → long_of word ≡ Some p → bytes_eq word dashes ≡ false
  long_not_dashes word p long = go (bytes_eq word dashes) refl
    where
      go : (b : Bool) → bytes_eq word dashes ≡ b → b ≡ false
      go false e = refl
      go true e = let none : long_of word ≡ None = ap long_of (same_text word dashes e) in cc

  plain_not_dashes : (word : Text) → is_hyphened word ≡ false → bytes_eq word dashes ≡ false
  plain_not_dashes word plain = go (bytes_eq word dashes) refl
    where
      go : (b : Bool) → bytes_eq word dashes ≡ b → b ≡ false
      go false e = refl
      go true e = let hyphened : is_hyphened word ≡ true = ap is_hyphened (same_text word dashes e) in cc

  plain_not_short : (word : Text) → is_hyphened word ≡ false → short_of word ≡ None
  plain_not_short [] plain = refl
  plain_not_short (x ∷ xs) plain = ap (λ b. option_and_then short_of_rest (cond b (Some xs) None)) plain

  long_hyphened : (word : Text) (p : Text × Option Text) → long_of word ≡ Some p → is_hyphened word ≡ true
  long_hyphened [] p long = cc
  long_hyphened (x ∷ xs) p long = go (eqb x 45) refl
    where
      go : (b : Bool) → eqb x 45 ≡ b → b ≡ true
      go true e = refl
      go false e = let none : long_of (x ∷ xs) ≡ None = ap (λ b. option_and_then long_of_rest (option_and_then (strip_byte 45) (cond b (Some xs) None))) e in cc

  clear_plain : (word : Text) → is_stray word ≡ false → long_of word ≡ None → is_hyphened word ≡ false
  clear_plain word clear long = go (is_hyphened word) refl
    where
      go : (b : Bool) → is_hyphened word ≡ b → b ≡ false
      go false e = refl
      go true e = let stray : is_stray word ≡ true = ap₂ (λ b o. b && not (is_some o)) e long in cc

  -- ---- a turn

  met_long : (waiting : Waiting) (word n : Text) (v : Option Text) (h : Held) → long_of word ≡ Some (n, v)
      → word_met (rules names) [] false waiting 1 word h ≡ long_word (rules names) waiting word n v h
  met_long waiting word n v h long =
      ap (λ o. subcommand_or_other (rules names) o waiting 1 word h) (no_subcommand waiting word)
      ∙ (λ i. cond (long_not_dashes word (n, v) long i) (h, trailing 1) (long_or_other (rules names) waiting word (long i) h))

  fault_long : (waiting : Waiting) (word n : Text) (v : Option Text) (h : Held) → long_of word ≡ Some (n, v)
      → word_fault shape [] false waiting word h ≡ long_fault (rules names) false (arg_by_long (rules names) n) v h
  fault_long waiting word n v h long =
      ap (λ o. other_fault shape o word h) (no_subcommand waiting word)
      ∙ (λ i. cond (long_not_dashes word (n, v) long i) [] (flag_word_fault (rules names) false (long i) word h))

  met_plain : (waiting : Waiting) (word : Text) (h : Held) → long_of word ≡ None → is_hyphened word ≡ false
      → word_met (rules names) [] false waiting 1 word h ≡ plain_word (rules names) waiting word h
  met_plain waiting word h long plain =
      ap (λ o. subcommand_or_other (rules names) o waiting 1 word h) (no_subcommand waiting word)
      ∙ (λ i. cond (plain_not_dashes word plain i) (h, trailing 1) (long_or_other (rules names) waiting word (long i) h))
      ∙ ap (λ o. short_or_plain (rules names) waiting word o h) (plain_not_short word plain)

  fault_plain : (waiting : Waiting) (word : Text) (h : Held) → long_of word ≡ None → is_hyphened word ≡ false → word_fault shape [] false waiting word h ≡ []
  fault_plain waiting word h long plain =
      ap (λ o. other_fault shape o word h) (no_subcommand waiting word)
      ∙ (λ i. cond (plain_not_dashes word plain i) [] (flag_word_fault (rules names) false (long i) word h))
      ∙ ap (λ o. option_map_or (λ flags. bundle_fault (rules names) false flags h) o []) (plain_not_short word plain)

  -- the turn, where the word is met as m and fails as f
  turn_as : (rs : List Row) (pending : Option (Text × List Text)) (waiting : Waiting) (word : Text) (f : Kinds) (m : Held × Step)
      → word_fault shape [] false waiting word (held rs pending) ≡ f → word_met (rules names) [] false waiting 1 word (held rs pending) ≡ m
      → turn_fault shape [] (at rs pending waiting) word ≡ or_else f (step_fault shape 1 m.0 m.1)
  turn_as rs pending waiting word f m fails met = λ i. or_else (fails i) (step_fault shape 1 (met i).0 (met i).1)

  walked_as : (rs : List Row) (pending : Option (Text × List Text)) (waiting : Waiting) (word : Text) (m : Held × Step)
      → word_met (rules names) [] false waiting 1 word (held rs pending) ≡ m
      → walked (rules names) [] (at rs pending waiting) word ≡ after_step (rules names) word (at rs pending waiting) m.0 m.1
  unfolding walked
  walked_as rs pending waiting word m met = λ i. after_step (rules names) word (at rs pending waiting) (met i).0 (met i).1

  step_as : (rs : List Row) (pending : Option (Text × List Text)) (waiting : Waiting) (word : Text) (rest : List Text) (f : Kinds) (m : Held × Step)
      → word_fault shape [] false waiting word (held rs pending) ≡ f → word_met (rules names) [] false waiting 1 word (held rs pending) ≡ m
      → outcome (at rs pending waiting) (word ∷ rest)
      ≡ cond (passes (or_else f (step_fault shape 1 m.0 m.1))) (outcome (after_step (rules names) word (at rs pending waiting) m.0 m.1) rest) None
  step_as rs pending waiting word rest f m fails met =
      step (at rs pending waiting) word rest
      ∙ (λ i. cond (passes (turn_as rs pending waiting word f m fails met i)) (outcome (walked_as rs pending waiting word m met i) rest) None)

  abbrev nothing : Option (List Row)
  nothing = None

  cond_none : (b : Bool) → cond b nothing nothing ≡ nothing
  cond_none true = refl
  cond_none false = refl

  -- a word of an option that the command does not have
  unknown : (rs : List Row) (pending : Option (Text × List Text)) (waiting : Waiting) (word n : Text) (v : Option Text) (rest : List Text)
      → long_of word ≡ Some (n, v) → is_option names n ≡ false → outcome (at rs pending waiting) (word ∷ rest) ≡ None
  unknown rs pending waiting word n v rest long none =
      let h = held rs pending in
      let found : arg_by_long (rules names) n ≡ None = by_long names n ∙ ap (λ b. cond b (Some (named n)) None) none in
      step_as rs pending waiting word rest (kind.UnknownArgument ∷ []) (long_word (rules names) waiting word n v h)
      (fault_long waiting word n v h long ∙ ap (λ o. long_fault (rules names) false o v h) found) (met_long waiting word n v h long)

  -- `--name=value`
  whole : (rs : List Row) (pending : Option (Text × List Text)) (waiting : Waiting) (word n x : Text) (rest : List Text)
      → long_of word ≡ Some (n, Some x) → is_option names n ≡ true
      → outcome (at rs pending waiting) (word ∷ rest)
      ≡ cond (passes (settle_fault (rules names) false (held rs pending)) && passes (use_fault false (named n) (x ∷ []) (settled (rules names) (held rs pending)).rows))
      (outcome (at (used (named n) (x ∷ []) (settled (rules names) (held rs pending)).rows) None idle) rest) None
  whole rs pending waiting word n x rest long known =
      let h = held rs pending in
      let found : arg_by_long (rules names) n ≡ Some (named n) = by_long names n ∙ ap (λ b. cond b (Some (named n)) None) known in
      let f = react_fault (rules names) false (named n) (x ∷ []) h in
      let then = outcome (at (used (named n) (x ∷ []) (settled (rules names) h).rows) None idle) rest in
      step_as rs pending waiting word rest f (reacted (rules names) (named n) (x ∷ []) h, next idle)
      (fault_long waiting word n (Some x) h long ∙ ap (λ o. long_fault (rules names) false o (Some x) h) found)
      (met_long waiting word n (Some x) h long ∙ ap (λ o. after_flag (rules names) waiting word (long_met (rules names) o (Some x) h).0 (long_met (rules names) o (Some x) h).1) found)
      ∙ ap (λ b. cond b then None) (passes-or_else f [] ∙ and_true (passes f) ∙ passes-or_else (settle_fault (rules names) false h) (use_fault false (named n) (x ∷ []) (settled (rules names) h).rows))

  -- `--name`
  lone : (rs : List Row) (pending : Option (Text × List Text)) (waiting : Waiting) (word n : Text) (rest : List Text)
      → long_of word ≡ Some (n, None) → is_option names n ≡ true
      → outcome (at rs pending waiting) (word ∷ rest)
      ≡ cond (passes (settle_fault (rules names) false (held rs pending)))
      (outcome (at (settled (rules names) (held rs pending)).rows (Some (n, [])) (option n)) rest) None
  lone rs pending waiting word n rest long known =
      let h = held rs pending in
      let found : arg_by_long (rules names) n ≡ Some (named n) = by_long names n ∙ ap (λ b. cond b (Some (named n)) None) known in
      let f = settle_fault (rules names) false h in
      let after = record (settled (rules names) h) { pending = Some (n, []) } in
      let then = outcome (at (settled (rules names) h).rows (Some (n, [])) (option n)) rest in
      step_as rs pending waiting word rest f (after, next (option n))
      (fault_long waiting word n None h long ∙ ap (λ o. long_fault (rules names) false o None h) found)
      (met_long waiting word n None h long ∙ ap (λ o. after_flag (rules names) waiting word (long_met (rules names) o None h).0 (long_met (rules names) o None h).1) found)
      ∙ ap (λ b. cond b then None) (passes-or_else f [] ∙ and_true (passes f))

  -- a value of the option that waits for one
  valued : (rs : List Row) (word n : Text) (rest : List Text) → long_of word ≡ None → is_hyphened word ≡ false → is_option names n ≡ true
      → outcome (at rs (Some (n, [])) (option n)) (word ∷ rest) ≡ outcome (at rs (Some (n, word ∷ [])) idle) rest
  valued rs word n rest long plain known =
      let h = held rs (Some (n, [])) in
      let found : arg_by_id (rules names) n ≡ Some (named n) = by_id names n ∙ ap (λ b. cond b (Some (named n)) None) known in
      step_as rs (Some (n, [])) (option n) word rest [] (pushed n word h, next idle) (fault_plain (option n) word h long plain)
      (met_plain (option n) word h long plain ∙ ap (λ o. ((option_word o n word h).0, next (option_word o n word h).1)) found
      ∙ ap (λ b. (pushed n word h, next (cond (nat_lt (cond b 1 0) 1) (option n) idle))) (text_same n))

  -- a word that nothing waits for
  loose : (rs : List Row) (pending : Option (Text × List Text)) (word : Text) (rest : List Text) → long_of word ≡ None → is_hyphened word ≡ false
      → outcome (at rs pending idle) (word ∷ rest) ≡ None
  loose rs pending word rest long plain =
      let h = held rs pending in
      step_as rs pending idle word rest [] (h, value) (fault_plain idle word h long plain) (met_plain idle word h long plain)
      ∙ ap (λ o. cond (passes (option_map_or (λ a. positional_fault (rules names) false a h) o (stray_fault shape)))
      (outcome (after_step (rules names) word (at rs pending idle) h value) rest) None) (no_position names 1)

  -- ---- what is settled

  waiting_fails : (rs : List Row) (n : Text) → is_option names n ≡ true → passes (settle_fault (rules names) false (held rs (Some (n, [])))) ≡ false
  waiting_fails rs n known =
      ap (λ o. passes (option_map_or (λ a. use_fault false a [] rs) o [])) (by_id names n ∙ ap (λ b. cond b (Some (named n)) None) known)

  use_passes : (given : List Given) (n v : Text) → passes (use_fault false (named n) (v ∷ []) (rows given)) ≡ not (has n given)
  use_passes given n v = go (has_row n (rows given)) ∙ ap not (has_row_is given n)
    where
      go : (b : Bool) → passes (or_else (cond (b && true) (kind.ArgumentConflict ∷ []) []) []) ≡ not b
      go true = refl
      go false = refl

  settle_passes : (given : List Given) (n v : Text) → is_option names n ≡ true
      → passes (settle_fault (rules names) false (held (rows given) (Some (n, v ∷ [])))) ≡ not (has n given)
  settle_passes given n v known =
      ap (λ o. passes (option_map_or (λ a. use_fault false a (v ∷ []) (rows given)) o [])) (by_id names n ∙ ap (λ b. cond b (Some (named n)) None) known)
      ∙ use_passes given n v

  settled_rows_are : (given : List Given) (n v : Text) → is_option names n ≡ true → has n given ≡ false
      → (settled (rules names) (held (rows given) (Some (n, v ∷ [])))).rows ≡ rows (given ++ (n, v) ∷ [])
  settled_rows_are given n v known new =
      ap (λ o. used_by_id o (v ∷ []) (rows given)) (by_id names n ∙ ap (λ b. cond b (Some (named n)) None) known) ∙ used_new given n v new

  -- an option with its value, not yet settled
  deferred : (rs : List Row) (n v : Text) (words : List Text) → list_any is_stray words ≡ false
      → outcome (at rs (Some (n, v ∷ [])) idle) words
      ≡ cond (passes (settle_fault (rules names) false (held rs (Some (n, v ∷ [])))))
      (outcome (at (settled (rules names) (held rs (Some (n, v ∷ [])))).rows None idle) words) None
  unfolding walk_fault
  deferred rs n v [] clear = refl
  deferred rs n v (word ∷ rest) clear = go (long_of word) refl
    where
      h : Held
      h = held rs (Some (n, v ∷ []))

      s : Bool
      s = passes (settle_fault (rules names) false h)

      mine : List Row
      mine = (settled (rules names) h).rows

      after : (p : Text × Option Text) (b : Bool) → long_of word ≡ Some p → is_option names p.0 ≡ b
          → outcome (at rs (Some (n, v ∷ [])) idle) (word ∷ rest) ≡ cond s (outcome (at mine None idle) (word ∷ rest)) None
      after (m, x) false long none =
          unknown rs (Some (n, v ∷ [])) idle word m x rest long none
          ∙ sym (cond_none s) ∙ ap (λ o. cond s o None) (sym (unknown mine None idle word m x rest long none))
      after (m, None) true long known =
          lone rs (Some (n, v ∷ [])) idle word m rest long known
          ∙ ap (λ o. cond s o None) (sym (lone mine None idle word m rest long known))
      after (m, Some x) true long known =
          whole rs (Some (n, v ∷ [])) idle word m x rest long known
          ∙ cond_and s (passes (use_fault false (named m) (x ∷ []) mine)) (outcome (at (used (named m) (x ∷ []) mine) None idle) rest) None
          ∙ ap (λ o. cond s o None) (sym (whole mine None idle word m x rest long known))

      go : (o : Option (Text × Option Text)) → long_of word ≡ o
          → outcome (at rs (Some (n, v ∷ [])) idle) (word ∷ rest) ≡ cond s (outcome (at mine None idle) (word ∷ rest)) None
      go (Some p) long = after p (is_option names p.0) long refl
      go None long =
          let plain = clear_plain word (first_clear word rest clear) long in
          loose rs (Some (n, v ∷ [])) word rest long plain
          ∙ sym (cond_none s) ∙ ap (λ o. cond s o None) (sym (loose mine None word rest long plain))

  -- ---- the whole

  unknown_waits : (given : List Given) (n : Text) (words : List Text) → is_option names n ≡ false → given_from names given (Some n) words ≡ None
  unknown_waits given n [] none = refl
  unknown_waits given n (word ∷ rest) none = go (is_hyphened word)
    where
      go : (b : Bool) → cond b None (add names given n word (λ more. given_from names more None rest)) ≡ None
      go true = refl
      go false = ap (λ b. cond (b && not (has n given)) (given_from names (given ++ (n, word) ∷ []) None rest) None) none

  abbrev pub Reads : List Text → List Given → Type 0
  Reads words given = outcome (at (rows given) None idle) words ≡ option_map rows (given_from names given None words)

  abbrev pub ReadsOn : List Text → List Given → Text → Type 0
  ReadsOn words given n = outcome (at (rows given) (Some (n, [])) (option n)) words ≡ option_map rows (given_from names given (Some n) words)

  abbrev Rest : List Text → Type 0
  Rest rest = (given : List Given) → Reads rest given × ((n : Text) → is_option names n ≡ true → ReadsOn rest given n)

  -- what `add` gives, as rows
  abbrev added : List Text → List Given → Text → Text → Bool → Bool → Option (List Row)
  added rest given m x is_one was_given = option_map rows (cond (is_one && not was_given) (given_from names (given ++ (m, x) ∷ []) None rest) None)

  begins : (word : Text) (rest : List Text) → list_any is_stray (word ∷ rest) ≡ false → Rest rest → (given : List Given) → Reads (word ∷ rest) given
  begins word rest clear ih given = go (long_of word) refl
    where
      then_rows : Option (Text × Option Text) → Option (List Row)
      then_rows o = option_map rows (on_word (λ name. given_from names given (Some name) rest) (λ name value. add names given name value (λ more. given_from names more None rest)) o)

      last : (m x : Text) (b : Bool) → is_option names m ≡ true → has m given ≡ b
          → cond (passes (use_fault false (named m) (x ∷ []) (rows given))) (outcome (at (used (named m) (x ∷ []) (rows given)) None idle) rest) None
          ≡ added rest given m x (is_option names m) (has m given)
      last m x true known was =
          ap (λ b. cond b (outcome (at (used (named m) (x ∷ []) (rows given)) None idle) rest) None) (use_passes given m x ∙ ap not was)
          ∙ sym (ap₂ (λ a b. added rest given m x a b) known was)
      last m x false known new =
          (λ i. cond ((use_passes given m x ∙ ap not new) i) (outcome (at (used_new given m x new i) None idle) rest) None)
          ∙ (ih (given ++ (m, x) ∷ [])).0
          ∙ sym (ap₂ (λ a b. added rest given m x a b) known new)

      after : (p : Text × Option Text) (b : Bool) → long_of word ≡ Some p → is_option names p.0 ≡ b → outcome (at (rows given) None idle) (word ∷ rest) ≡ then_rows (Some p)
      after (m, None) false long none = unknown (rows given) None idle word m None rest long none ∙ sym (ap (option_map rows) (unknown_waits given m rest none))
      after (m, None) true long known = lone (rows given) None idle word m rest long known ∙ (ih given).1 m known
      after (m, Some x) false long none = unknown (rows given) None idle word m (Some x) rest long none ∙ sym (ap (λ b. added rest given m x b (has m given)) none)
      after (m, Some x) true long known = whole (rows given) None idle word m x rest long known ∙ last m x (has m given) known refl

      go : (o : Option (Text × Option Text)) → long_of word ≡ o → outcome (at (rows given) None idle) (word ∷ rest) ≡ then_rows (long_of word)
      go None long = loose (rows given) None word rest long (clear_plain word (first_clear word rest clear) long) ∙ sym (ap then_rows long)
      go (Some p) long = after p (is_option names p.0) long refl ∙ sym (ap then_rows long)

  goes_on : (word : Text) (rest : List Text) → list_any is_stray (word ∷ rest) ≡ false → Rest rest → (given : List Given) (n : Text) → is_option names n ≡ true → ReadsOn (word ∷ rest) given n
  goes_on word rest clear ih given n known = go (long_of word) refl
    where
      then_rows : Bool → Option (List Row)
      then_rows b = option_map rows (cond b None (add names given n word (λ more. given_from names more None rest)))

      last : (b : Bool) → has n given ≡ b
          → cond (passes (settle_fault (rules names) false (held (rows given) (Some (n, word ∷ [])))))
          (outcome (at (settled (rules names) (held (rows given) (Some (n, word ∷ [])))).rows None idle) rest) None
          ≡ added rest given n word (is_option names n) (has n given)
      last true was =
          ap (λ b. cond b (outcome (at (settled (rules names) (held (rows given) (Some (n, word ∷ [])))).rows None idle) rest) None) (settle_passes given n word known ∙ ap not was)
          ∙ sym (ap₂ (λ a b. added rest given n word a b) known was)
      last false new =
          (λ i. cond ((settle_passes given n word known ∙ ap not new) i) (outcome (at (settled_rows_are given n word known new i) None idle) rest) None)
          ∙ (ih (given ++ (n, word) ∷ [])).0
          ∙ sym (ap₂ (λ a b. added rest given n word a b) known new)

      fails : (p : Text × Option Text) (b : Bool) → long_of word ≡ Some p → is_option names p.0 ≡ b → outcome (at (rows given) (Some (n, [])) (option n)) (word ∷ rest) ≡ None
      fails (m, x) false long none = unknown (rows given) (Some (n, [])) (option n) word m x rest long none
      fails (m, None) true long is =
          lone (rows given) (Some (n, [])) (option n) word m rest long is
          ∙ ap (λ b. cond b (outcome (at (settled (rules names) (held (rows given) (Some (n, [])))).rows (Some (m, [])) (option m)) rest) None) (waiting_fails (rows given) n known)
      fails (m, Some x) true long is =
          whole (rows given) (Some (n, [])) (option n) word m x rest long is
          ∙ ap (λ b. cond (b && passes (use_fault false (named m) (x ∷ []) (settled (rules names) (held (rows given) (Some (n, [])))).rows))
          (outcome (at (used (named m) (x ∷ []) (settled (rules names) (held (rows given) (Some (n, [])))).rows) None idle) rest) None) (waiting_fails (rows given) n known)

      go : (o : Option (Text × Option Text)) → long_of word ≡ o → outcome (at (rows given) (Some (n, [])) (option n)) (word ∷ rest) ≡ then_rows (is_hyphened word)
      go None long =
          let plain = clear_plain word (first_clear word rest clear) long in
          valued (rows given) word n rest long plain known ∙ deferred (rows given) n word rest (rest_clear word rest clear)
          ∙ last (has n given) refl ∙ sym (ap then_rows plain)
      go (Some p) long = fails p (is_option names p.0) long refl ∙ sym (ap then_rows (long_hyphened word p long))

  pub reads : (words : List Text) → list_any is_stray words ≡ false → Rest words
  unfolding walk_fault
  reads [] clear given = (refl, λ n known. ap (λ b. cond b (Some (settled (rules names) (held (rows given) (Some (n, [])))).rows) None) (waiting_fails (rows given) n known))
  reads (word ∷ rest) clear given =
      let ih = reads rest (rest_clear word rest clear) in
      (begins word rest clear ih given, λ n known. goes_on word rest clear ih given n known)

  -- ---- after the walk

  no_defaults : (rs : List Row) (ns : List Text) → fold with_default rs (rules ns) ≡ rs
  no_defaults rs [] = refl
  no_defaults rs (n ∷ ns) = ap (λ x. fold with_default x (rules ns)) (go (has_row n rs)) ∙ no_defaults rs ns
    where
      go : (b : Bool) → cond b rs rs ≡ rs
      go true = refl
      go false = refl

  no_default_faults : (rs : List Row) (ns : List Text) → defaults_fault rs (rules ns) ≡ []
  unfolding defaults_fault
  no_default_faults rs [] = refl
  no_default_faults rs (n ∷ ns) = go (has_row n rs) (λ x. no_default_faults x ns)
    where
      go : (b : Bool) → ((x : List Row) → defaults_fault x (rules ns) ≡ [])
          → or_else (cond (b || true) [] (given_default_fault (named n) [])) (defaults_fault (cond b rs rs) (rules ns)) ≡ []
      go true more = more rs
      go false more = more rs

  none_required : (rs : List Row) (ns : List Text) → list_any (λ a. a.required && not (is_given a.id rs)) (rules ns) ≡ false
  none_required rs [] = refl
  none_required rs (n ∷ ns) = none_required rs ns

pub matches_are : (title : Text) (names words : List Text) → matches_of (app title names) words ≡ (settled (rules names) (walk (rules names) [] nothing_held words).held).rows
matches_are title names words =
    ap (λ (a : App). finished a.top.rules (walk a.top.rules (names_of a) nothing_held words).held) (built_is title names)
    ∙ no_defaults title names (settled (rules names) (walk (rules names) [] nothing_held words).held).rows names

or_else_none : (a : Kinds) → or_else a [] ≡ a
or_else_none [] = refl
or_else_none (k ∷ ks) = refl

level_is : (title : Text) (names words : List Text) → level_fault (top title (rules names)) [] nothing_held words false [] ≡ fault_from title names (at [] None idle) words
level_is title names words =
    let end = (walk (rules names) [] nothing_held words).held in
    let rs = finished (rules names) end in
    let w = walk_fault (top title (rules names)) [] (walk_from nothing_held) words in
    let s = settle_fault (rules names) false end in
    ap (λ d. or_else w (or_else s (or_else d (check_fault (top title (rules names)) rs false)))) (no_default_faults title names (settled (rules names) end).rows names)
    ∙ ap (λ b. or_else w (or_else s (check_kinds false false b))) (none_required title names rs names)
    ∙ ap (or_else w) (or_else_none s)

pub fault_is : (title : Text) (names words : List Text) → fault_of (app title names) words ≡ fault_from title names (at [] None idle) words
fault_is title names words =
    ap (λ (a : App). built_fault a nothing_held words) (built_is title names)
    ∙ leaf_fault (record { top = top title (rules names); subs = [] }) nothing_held words refl
    ∙ level_is title names words

-- what clap's answer comes to, as one value
answer : (title : Text) (names words : List Text) → list_any is_stray words ≡ false
    → cond (passes (fault_of (app title names) words)) (Some (matches_of (app title names) words)) None ≡ option_map rows (given_in names words)
answer title names words clear =
    (λ i. cond (passes (fault_is title names words i)) (Some (matches_are title names words i)) None) ∙ (reads title names words clear []).0

pub record Accepts (names words : List Text) (found : List Row) : Type 0 where
  pub given : List Given
  pub is : given_in names words ≡ Some given
  pub found_is : found ≡ rows given

pub accepted : (title : Text) (names words : List Text) → list_any is_stray words ≡ false → fault_of (app title names) words ≡ []
    → Accepts names words (matches_of (app title names) words)
accepted title names words clear fine = go (given_in names words) refl
  where
    found : List Row
    found = matches_of (app title names) words

    now : Some found ≡ option_map rows (given_in names words)
    now = ap (λ (ks : Kinds). cond (passes ks) (Some found) None) (sym fine) ∙ answer title names words clear

    go : (o : Option (List Given)) → given_in names words ≡ o → Accepts names words found
    go None e = let bad : Some found ≡ None = now ∙ ap (option_map rows) e in cc
    go (Some given) e = let same : Some found ≡ Some (rows given) = now ∙ ap (option_map rows) e in record { given = given; is = e; found_is = cc }

pub refused : (title : Text) (names words : List Text) (k : ErrorKind) → list_any is_stray words ≡ false → IsAmong k (fault_of (app title names) words) → given_in names words ≡ None
refused title names words k clear among = go (given_in names words) refl (fault_of (app title names) words) refl among
  where
    go : (o : Option (List Given)) → given_in names words ≡ o → (ks : Kinds) → fault_of (app title names) words ≡ ks → IsAmong k ks → o ≡ None
    go o e [] fine h = absurd h
    go None e (x ∷ xs) bad h = refl
    go (Some given) e (x ∷ xs) bad h =
        let none : None ≡ Some (rows given) =
        ap (λ (ks : Kinds). cond (passes ks) (Some (matches_of (app title names) words)) None) (sym bad) ∙ answer title names words clear ∙ ap (option_map rows) e in cc

-- the command is one of which clap's contract is exact
simple_rules : (ns : List Text) → list_all (λ a. a.is_simple) (map raw ns) ≡ true
simple_rules [] = refl
simple_rules (n ∷ ns) = simple_rules ns

simple_named : (ns : List Text) → list_all (λ a. a.is_simple) (rules ns) ≡ true
simple_named [] = refl
simple_named (n ∷ ns) = simple_named ns

free_named : (ns : List Text) → list_all (λ a. a.is_free) (rules ns) ≡ true
free_named [] = refl
free_named (n ∷ ns) = free_named ns

none_early : (k : ℕ) (ns : List Text) → list_any (is_early_multiple k) (rules ns) ≡ false
none_early k [] = refl
none_early k (n ∷ ns) = none_early k ns

pub simple : (title : Text) (names : List Text) → is_simple_and_free (app title names) ≡ true
simple title names =
    let k = count_by (λ a. is_some a.index) (built (app title names)).top.rules in
    ap (λ (rs : List Rule). list_all (λ a. a.is_simple) (map raw names) && true && (list_all (λ a. a.is_simple) rs && not (list_any (is_early_multiple k) rs) && true)
    && (list_all (λ a. a.is_free) rs && true)) (filled_is 1 names)
    ∙ (λ i. simple_rules names i && true && (simple_named names i && not (none_early k names i) && true) && (free_named names i && true))

-- one more option
grows : (xs : List (Bor Text)) (i : ℕ) (d : Bor Text) → i < length xs
    → map raw (map (λ (s : Bor Text). s.now) (take i xs)) ++ raw (get_or xs i d).now ∷ [] ≡ map raw (map (λ (s : Bor Text). s.now) (take (suc i) xs))
grows [] i d lt = absurd (omega arith)
grows (y ∷ ys) zero d lt = refl
grows (y ∷ ys) (suc i) d lt = ap (λ rs. raw y.now ∷ rs) (grows ys i d (omega arith))

pub with_one_more : (title : Text) (xs : List (Bor Text)) (i : ℕ) (d : Bor Text) → i < length xs
    → with_rule (app title (map (λ (s : Bor Text). s.now) (take i xs))) (raw (get_or xs i d).now) ≡ app title (map (λ (s : Bor Text). s.now) (take (i + 1) xs))
with_one_more title xs i d lt =
    ap (app_with title) (grows xs i d lt) ∙ (let next_is : suc i ≡ i + 1 = omega arith in ap (λ k. app title (map (λ (s : Bor Text). s.now) (take k xs))) next_is)

-- the first value of an id, of the rows and of what was given
pub first_is : (given : List Given) (id : Text) → first_of id (rows given) ≡ value_of id given
first_is [] id = refl
first_is (p ∷ ps) id = go (bytes_eq p.0 id) (first_is ps id)
  where
    go : (b : Bool) → first_of id (rows ps) ≡ value_of id ps → option_and_then (λ r. slice_get r.values 0) (cond b (Some (row p)) (find (λ (r : Row). bytes_eq r.id id) (rows ps)))
        ≡ option_map (λ q. q.1) (cond b (Some p) (find (λ (q : Given). bytes_eq q.0 id) ps))
    go true more = refl
    go false more = more

pub clap_is_exact : (title : Text) (names : List Text) (a : App) → a ≡ app title names → is_simple_and_free a ≡ true
clap_is_exact title names a same = ap is_simple_and_free same ∙ simple title names

pub options_found : (title : Text) (names words : List Text) (a : App) (m : ArgMatches) → a ≡ app title names → list_any is_stray words ≡ false
    → fault_of a words ≡ [] → HasMatchesOf a words m → FindsOptions names words m
options_found title names words a m same clear fine matches =
    let accepts = accepted title names words clear (ap (λ x. fault_of x words) (sym same) ∙ fine) in
    let is = (both (is_simple a) (is_free_app (built a)) (clap_is_exact title names a same)).0 in
    let found : rows_of (found_of m) ≡ rows accepts.given = (matches is).0 ∙ ap (λ x. matches_of x words) same ∙ accepts.found_is in
    record {
      given = accepts.given;
      is = accepts.is;
      values = λ id. first_value-rows (found_of m) id ∙ ap (first_of id) found ∙ first_is accepts.given id;
    }

pub options_refused : (title : Text) (names words : List Text) (a : App) (e : Error) → a ≡ app title names → list_any is_stray words ≡ false
    → HasKind (fault_of a words) e → (kind_of e ≡ kind.OutOfMemory → ⊥) → given_in names words ≡ None
options_refused title names words a e same clear (inl memory) other = absurd (other memory)
options_refused title names words a e same clear (inr among) other =
    refused title names words (kind_of e) clear (subst (λ x. IsAmong (kind_of e) (fault_of x words)) same among)
