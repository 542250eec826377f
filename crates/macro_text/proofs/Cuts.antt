-- A list that is cut into chunks of one size.
use Rattle.std.proofs.Common.{◌≡◌, ◌≤◌, ◌<◌, ℕ, ◌+◌, ◌*◌, min, List, [], ◌∷◌, ◌++◌, length, take, drop, map, sym, ap, ◌∙◌, arith, append-nil}
use Rattle.std.proofs.lemmas.Grind.{flat_map-append}
use Rattle.std.proofs.lemmas.List.{take_at, drop_at, take_min, drop_min, drop-drop}
use Rattle.std.proofs.lemmas.List.Folds.{flat_map-map}
use Rattle.std.proofs.lemmas.List.FromFn.{map-range_with_len_more}
use Rattle.std.specs.Fork.{slice_chunk}
use Rattle.std.specs.Int.{div_ceil}
use Rattle.std.specs.List.{flat_map, range_with_len}
use Rattle.action_table.specs.declared.action.Action.{Action}
use Rattle.macro_text.specs.Blocks.{block_text, block_length, blocks_below}

-- what is left is the list without the chunk
pub rest_is : (k : ℕ) (all front rest : List Action) → all ≡ front ++ rest → length front ≡ min k (length all) → rest ≡ drop k all
rest_is k all front rest parts size = sym (drop_at front rest _ size) ∙ ap (drop (min k (length all))) (sym parts) ∙ drop_min k all

-- the chunk is the front of the list
pub front_is : (k : ℕ) (all front rest : List Action) → all ≡ front ++ rest → length front ≡ min k (length all) → front ≡ take k all
front_is k all front rest parts size = sym (take_at front rest _ size) ∙ ap (take (min k (length all))) (sym parts) ∙ take_min k all

-- the places after the next chunk
pub rest-next : (actions : List Action) (n : ℕ) → drop block_length (drop (n * block_length) actions) ≡ drop ((n + 1) * block_length) actions
rest-next actions n =
    let e : n * block_length + block_length ≡ (n + 1) * block_length = omega arith in
    drop-drop block_length (n * block_length) actions ∙ ap (λ m. drop m actions) e

-- one block more
pub below-more : (actions : List Action) (n : ℕ) → blocks_below actions (n + 1) ≡ blocks_below actions n ++ block_text (n + 1) (slice_chunk actions block_length n)
below-more actions n =
    let text = λ (i : ℕ). block_text (i + 1) (slice_chunk actions block_length i) in
    let same = λ (i : ℕ). i in
    let e : 0 + n ≡ n = omega arith in
    sym (flat_map-map text same (range_with_len 0 (n + 1))) ∙ ap (flat_map text) (map-range_with_len_more same 0 n n e)
    ∙ flat_map-append text (map same (range_with_len 0 n)) (n ∷ [])
    ∙ ap (λ (t : List ℕ). t ++ (text n ++ [])) (flat_map-map text same (range_with_len 0 n))
    ∙ ap (λ (t : List ℕ). blocks_below actions n ++ t) (append-nil (text n))

-- where no action is left, all blocks are written
pub count_is : (n len : ℕ) → len ≤ n * block_length → n * block_length < len + block_length → n ≡ div_ceil len block_length
count_is n len all needed = omega arith
