-- What is written of the marks of a level is the rows that are made.
use Rattle.std.proofs.Common.{◌≡◌, ◌∙◌, sym, ℕ, ◌+◌, ◌<◌, ◌^◌, ◌==◌, ◌&&◌, ◌||◌, not, Bool, true, false, Option, Some, None, List, [], ◌∷◌, ◌++◌, append_assoc, append-nil, length, length-append, map, get_or, refl, ap, arith, if◌then◌else◌}
use Rattle.std.specs.List.{cons_option, filter, filter_map, flat_map, enumerate_from, position}
use Rattle.std.proofs.Math.Seq.{get_or-append_seam}
use Rattle.std.proofs.lemmas.List.Elements.{filter_map-append}
use Rattle.std.proofs.lemmas.List.Quantifiers.{position-Some}
use Rattle.action_table.specs.declared.action.Action.{Action}
use Rattle.action_table.specs.Table.{all_actions}
use Rattle.craft_state.specs.Craft.{StateFields}
use Rattle.step_rules.specs.Legality.{start_of, is_complete, is_over, is_legal}
use Rattle.step_rules.specs.Step.{step_of}
use Rattle.prefix_fronts.specs.Prefix.{Prefix, empty_from, extend, dominates}
use Rattle.pareto_front.specs.declared.node.Node.{Node}
use Rattle.pareto_front.specs.Covers.{uncovered}
use Rattle.front_walk.specs.Nodes.{child_node, child_by, children_by, nodes_by, goes_and_passes}
use Rattle.front_walk.proofs.Tied.{Looks}
use Rattle.certificate_text.specs.declared.verdict.Verdict.{Verdict}
use Rattle.certificate_text.specs.Text.{line_end}
use Rattle.certificate_laws.specs.Claims.{Claim, legal_at}
use Rattle.certificate_laws.specs.Made.{is_limited, is_late, may_win, settled, ranked, or_ranked, verdict_of, left_after, row_of, next_level}
use Rattle.certificate_laws.proofs.Made.{picked}
use Rattle.certificate_maker.specs.declared.marks.Mark.{Mark}
use Rattle.certificate_maker.specs.declared.marks.Mark.TheVariants.{Settled, Open, RowEnd}
use Rattle.certificate_maker.specs.declared.rivals.Rival.{Rival}
use Rattle.certificate_maker.specs.Marks.{mark_of, child_mark, node_marks, level_marks, opened, next_nodes}
use Rattle.certificate_maker.specs.Rivals.{AreBuckets, over_in}
use Rattle.certificate_maker.specs.Written.{verdict_word, gap, words_from, row_line, ended, IsSmall, AreSmall, RowsSmall, mark_text, ends_row, marks_text}
use Rattle.certificate_maker.proofs.Bucketed.{over-first}
use Rattle.certificate_maker.proofs.Tying.{Stands, first-tied}

-- what is open is what goes on and may win
opened_in : Option Mark → Option Node
opened_in None = None
opened_in (Some mark) = opened mark

open-test : (legal complete dead limited late : Bool) (c : Node) → opened_in (if legal then Some (mark_of (picked complete (complete || dead) limited late) c) else None)
    ≡ (if (legal && not (complete || dead)) && (not limited && not late) then Some c else None)
unfolding opened_in
open-test false complete dead limited late c = refl
open-test true true dead limited late c = refl
open-test true false true limited late c = refl
open-test true false false true late c = refl
open-test true false false false true c = refl
open-test true false false false false c = refl

open-child : (claim : Claim) (left place : ℕ) (n : Node) (a : Action) → opened_in (child_mark claim left place n a) ≡ child_by claim.g (goes_and_passes claim.g (may_win claim) left) place n a
unfolding child_mark child_by settled may_win
open-child claim left place n a =
    let s = step_of claim.g n.state a in
    open-test (is_legal claim.g n.state a) (is_complete claim.g s) (s.durability == 0) (is_limited claim s) (is_late claim left s) (child_node claim.g place n a)

open-cons : (o : Option Mark) (marks : List Mark) → filter_map opened (cons_option o marks) ≡ cons_option (opened_in o) (filter_map opened marks)
unfolding opened_in
open-cons None marks = refl
open-cons (Some (Settled verdict)) marks = refl
open-cons (Some (Open child)) marks = refl
open-cons (Some RowEnd) marks = refl

open-row : (claim : Claim) (left place : ℕ) (n : Node) (actions : List Action) → filter_map opened (filter_map (child_mark claim left place n) actions) ≡ filter_map (child_by claim.g (goes_and_passes claim.g (may_win claim) left) place n) actions
open-row claim left place n [] = refl
open-row claim left place n (a ∷ actions) =
    open-cons (child_mark claim left place n a) (filter_map (child_mark claim left place n) actions) ∙ (λ j. cons_option (open-child claim left place n a j) (open-row claim left place n actions j))

open-node : (claim : Claim) (left place : ℕ) (n : Node) → filter_map opened (node_marks claim left place n) ≡ children_by claim.g (goes_and_passes claim.g (may_win claim) left) place n
unfolding node_marks children_by
open-node claim left place n = filter_map-append opened (filter_map (child_mark claim left place n) all_actions) (RowEnd ∷ []) ∙ append-nil _ ∙ open-row claim left place n all_actions

open-nodes : (claim : Claim) (left place : ℕ) (nodes : List Node) → filter_map opened (flat_map (λ x. node_marks claim left x.0 x.1) (enumerate_from place nodes))
    ≡ flat_map (λ x. children_by claim.g (goes_and_passes claim.g (may_win claim) left) x.0 x.1) (enumerate_from place nodes)
open-nodes claim left place [] = refl
open-nodes claim left place (n ∷ nodes) =
    filter_map-append opened (node_marks claim left place n) (flat_map (λ (x : ℕ × Node). node_marks claim left x.0 x.1) (enumerate_from (place + 1) nodes))
    ∙ (λ j. open-node claim left place n j ++ open-nodes claim left (place + 1) nodes j)

pub open-level : (claim : Claim) (left : ℕ) (nodes : List Node) → filter_map opened (level_marks claim left nodes) ≡ nodes_by claim.g (goes_and_passes claim.g (may_win claim) left) nodes
open-level claim left nodes = open-nodes claim left 0 nodes

pub next-found : (claim : Claim) (left : ℕ) (nodes next found : List Node) (seen marks : List Mark) → next ≡ uncovered found → found ≡ filter_map opened seen → seen ≡ marks → marks ≡ level_marks claim left nodes → next ≡ next_nodes claim left nodes
unfolding next_nodes
next-found claim left nodes next found seen marks left_over are same all =
    left_over ∙ ap uncovered (are ∙ ap (filter_map opened) (same ∙ all) ∙ open-level claim left nodes)

-- the text of one mark
mark-says : (buckets : List (List Rival)) (first : Bool) (o : Option Verdict) (c : Node) (place : Option ℕ) → over_in buckets c ≡ place → mark_text buckets first (mark_of o c) ≡ gap first ++ verdict_word (or_ranked o place)
mark-says buckets first (Some verdict) c place over = refl
mark-says buckets first None c place over = ap (λ (o : Option ℕ). gap first ++ verdict_word (ranked o)) over

mark-on : (o : Option Verdict) (c : Node) → ends_row (mark_of o c) ≡ false
mark-on (Some verdict) c = refl
mark-on None c = refl

regroup : (a b c d : List ℕ) → (a ++ b) ++ (c ++ d) ≡ (a ++ (b ++ c)) ++ d
regroup a b c d = append_assoc a b (c ++ d) ∙ ap (λ (l : List ℕ). a ++ l) (sym (append_assoc b c d)) ∙ sym (append_assoc a (b ++ c) d)

text-step : (buckets : List (List Rival)) (first b : Bool) (m : Mark) (marks : List Mark) (e : Action → Verdict) (a : Action) (actions : List Action) (tail : List ℕ) → mark_text buckets first m ≡ gap first ++ verdict_word (e a) → ends_row m ≡ false →
    ((f : Bool) → marks_text buckets f marks ≡ words_from f (map e actions) ++ tail) → marks_text buckets first (if b then m ∷ marks else marks) ≡ words_from first (map e (if b then a ∷ actions else actions)) ++ tail
text-step buckets first true m marks e a actions tail says on rest =
    (λ j. says j ++ marks_text buckets (on j) marks) ∙ ap (λ (l : List ℕ). (gap first ++ verdict_word (e a)) ++ l) (rest false) ∙ regroup (gap first) (verdict_word (e a)) (words_from false (map e actions)) tail
text-step buckets first false m marks e a actions tail says on rest = rest first

cons-marks : (b : Bool) (m : Mark) (marks ends later : List Mark) → (cons_option (if b then Some m else None) marks ++ ends) ++ later ≡ (if b then m ∷ ((marks ++ ends) ++ later) else ((marks ++ ends) ++ later))
cons-marks true m marks ends later = refl
cons-marks false m marks ends later = refl

-- where a node stands in its level, for a kept prefix
record StandsAt (claim : Claim) (level : ℕ) (nodes : List Node) (kept : List Prefix) (place : ℕ) (n : Node) (p : Prefix) : Type 0 where
  pub stands : Stands claim level nodes kept
  pub inside : place < length kept
  pub at : get_or kept place (empty_from (start_of claim.g)) ≡ p
  pub state : n.state ≡ p.state
  pub seconds : n.seconds ≡ p.seconds

row-text : (claim : Claim) (level : ℕ) (nodes : List Node) (kept : List Prefix) (buckets : List (List Rival)) (place : ℕ) (n : Node) (p : Prefix) (later : List Mark) → StandsAt claim level nodes kept place n p → AreBuckets (next_nodes claim (left_after claim level) nodes) buckets → (actions : List Action) (first : Bool) →
    marks_text buckets first ((filter_map (child_mark claim (left_after claim level) place n) actions ++ RowEnd ∷ []) ++ later)
    ≡ words_from first (map (λ action. verdict_of claim (left_after claim level) (next_level claim level kept) (extend claim.g p action)) (filter (is_legal claim.g p.state) actions)) ++ (line_end ∷ marks_text buckets true later)
unfolding child_mark verdict_of
row-text claim level nodes kept buckets place n p later at are [] first = refl
row-text claim level nodes kept buckets place n p later at are (a ∷ actions) first =
    let g = claim.g in
    let left = left_after claim level in
    let c = child_node g place n a in
    let legal : Bool = is_legal g n.state a in
    let over : Option ℕ = position (λ q. dominates q (extend g p a)) (next_level claim level kept) in
    let e : Action → Verdict = λ action. verdict_of claim left (next_level claim level kept) (extend g p action) in
    let tail : List ℕ = line_end ∷ marks_text buckets true later in
    let m : Mark = mark_of (settled claim left (step_of g n.state a)) c in
    let found : over_in buckets c ≡ over = over-first (next_nodes claim left nodes) buckets c are ∙ first-tied claim level nodes kept place n p a at.stands at.inside at.at at.state at.seconds in
    let says : mark_text buckets first m ≡ gap first ++ verdict_word (e a) =
    mark-says buckets first (settled claim left (step_of g n.state a)) c over found ∙ ap (λ (s : StateFields). gap first ++ verdict_word (or_ranked (settled claim left (step_of g s a)) over)) at.state in
    ap (marks_text buckets first) (cons-marks legal m (filter_map (child_mark claim left place n) actions) (RowEnd ∷ []) later)
    ∙ text-step buckets first legal m ((filter_map (child_mark claim left place n) actions ++ RowEnd ∷ []) ++ later) e a (filter (is_legal g p.state) actions) tail says (mark-on (settled claim left (step_of g n.state a)) c)
    (row-text claim level nodes kept buckets place n p later at are actions)
    ∙ ap (λ (s : StateFields). words_from first (map e (if is_legal g s a then a ∷ filter (is_legal g p.state) actions else filter (is_legal g p.state) actions)) ++ tail) at.state

rows-text : (claim : Claim) (level : ℕ) (nodes : List Node) (kept : List Prefix) (buckets : List (List Rival)) → Stands claim level nodes kept → AreBuckets (next_nodes claim (left_after claim level) nodes) buckets → (before ps : List Prefix) (ns : List Node) (place : ℕ) → place ≡ length before → before ++ ps ≡ kept →
    Looks ns ps → marks_text buckets true (flat_map (λ x. node_marks claim (left_after claim level) x.0 x.1) (enumerate_from place ns)) ≡ ended (map row_line (map (row_of claim level (next_level claim level kept)) ps))
unfolding node_marks row_of legal_at
rows-text claim level nodes kept buckets stands are before [] [] place at all looks = refl
rows-text claim level nodes kept buckets stands are before [] (n ∷ ns) place at all looks = absurd looks
rows-text claim level nodes kept buckets stands are before (p ∷ ps) [] place at all looks = absurd looks
rows-text claim level nodes kept buckets stands are before (p ∷ ps) (n ∷ ns) place at all looks =
    let g = claim.g in
    let left = left_after claim level in
    let d = empty_from (start_of g) in
    let later : List Mark = flat_map (λ (x : ℕ × Node). node_marks claim left x.0 x.1) (enumerate_from (place + 1) ns) in
    let line : List ℕ = row_line (row_of claim level (next_level claim level kept) p) in
    let here : StandsAt claim level nodes kept place n p = record {
      stands = stands;
      inside = omega (arith, at, ap (λ (l : List Prefix). length l) all, length-append before (p ∷ ps));
      at = ap (λ (l : List Prefix). get_or l place d) (sym all) ∙ ap (λ (k : ℕ). get_or (before ++ p ∷ ps) k d) at ∙ get_or-append_seam before p ps d;
      state = looks.0;
      seconds = looks.1;
    } in
    let next : place + 1 ≡ length (before ++ p ∷ []) = omega (arith, at, length-append before (p ∷ [])) in
    row-text claim level nodes kept buckets place n p later here are all_actions true
    ∙ ap (λ (l : List ℕ). line ++ line_end ∷ l) (rows-text claim level nodes kept buckets stands are (before ++ p ∷ []) ps ns (place + 1) next (append_assoc before (p ∷ []) ps ∙ all) looks.2)

pub level-text : (claim : Claim) (level : ℕ) (nodes : List Node) (kept : List Prefix) (buckets : List (List Rival)) → Stands claim level nodes kept → AreBuckets (next_nodes claim (left_after claim level) nodes) buckets →
    marks_text buckets true (level_marks claim (left_after claim level) nodes) ≡ ended (map row_line (map (row_of claim level (next_level claim level kept)) kept))
level-text claim level nodes kept buckets stands are = rows-text claim level nodes kept buckets stands are [] kept nodes 0 refl refl stands.looks

-- places are few
picked-small : (complete over limited late : Bool) (place : Option ℕ) → IsSmall (ranked place) → IsSmall (or_ranked (picked complete over limited late) place)
picked-small true over limited late place h = tt
picked-small false true limited late place h = tt
picked-small false false true late place h = tt
picked-small false false false true place h = tt
picked-small false false false false place h = h

ranked-small : (t : Prefix → Bool) (next : List Prefix) (d : Prefix) (place : Option ℕ) → position t next ≡ place → length next < 2 ^ 64 → IsSmall (ranked place)
ranked-small t next d None found few = tt
ranked-small t next d (Some place) found few = omega (arith, few, (position-Some t next place d found).0)

verdict-small : (claim : Claim) (left : ℕ) (next : List Prefix) (p : Prefix) → length next < 2 ^ 64 → IsSmall (verdict_of claim left next p)
unfolding verdict_of settled
verdict-small claim left next p few =
    picked-small (is_complete claim.g p.state) (is_over claim.g p.state) (is_limited claim p.state) (is_late claim left p.state) (position (λ q. dominates q p) next) (ranked-small (λ q. dominates q p) next p (position (λ q. dominates q p) next) refl few)

all-small : (verdict : Action → Verdict) (actions : List Action) → ((a : Action) → IsSmall (verdict a)) → AreSmall (map verdict actions)
all-small verdict [] each = tt
all-small verdict (a ∷ actions) each = (each a, all-small verdict actions each)

pub rows-small : (claim : Claim) (level : ℕ) (next kept : List Prefix) → length next < 2 ^ 64 → RowsSmall (map (row_of claim level next) kept)
unfolding row_of legal_at
rows-small claim level next [] few = tt
rows-small claim level next (p ∷ kept) few = (
  all-small (λ action. verdict_of claim (left_after claim level) next (extend claim.g p action)) (filter (is_legal claim.g p.state) all_actions) (λ a. verdict-small claim (left_after claim level) next (extend claim.g p a) few),
  rows-small claim level next kept few,
)
