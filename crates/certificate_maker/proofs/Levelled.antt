-- The certificate level by level.
use Rattle.std.proofs.Common.{◌≡◌, ◌∙◌, sym, ℕ, ◌+◌, ◌<◌, ◌^◌, true, List, [], ◌∷◌, ◌++◌, append_assoc, length, map, refl, ap, subst, arith}
use Rattle.std.proofs.lemmas.List.{length-map}
use Rattle.craft_settings.specs.Ranges.{AreSettings}
use Rattle.step_rules.specs.Legality.{start_of}
use Rattle.prefix_fronts.specs.Prefix.{Prefix, empty_prefix}
use Rattle.pareto_front.specs.declared.node.Node.{Node}
use Rattle.front_walk.specs.Nodes.{root_node}
use Rattle.front_walk.proofs.Tied.{Looks}
use Rattle.certificate_text.specs.declared.verdict.Verdict.{Verdict}
use Rattle.certificate_text.specs.Text.{line_end, first_line, best_line, level_line}
use Rattle.certificate_laws.specs.Claims.{Claim}
use Rattle.certificate_laws.specs.Made.{left_after, row_of, next_level, AreMade}
use Rattle.certificate_laws.proofs.Made.{start-prefix}
use Rattle.certificate_maker.specs.Marks.{level_marks, next_nodes}
use Rattle.certificate_maker.specs.Rivals.{AreBuckets}
use Rattle.certificate_maker.specs.Written.{row_line, ended, level_lines, LevelsSmall, IsWritten, IsLevelText, marks_text}
use Rattle.certificate_maker.proofs.Rowed.{level-text, rows-small}
use Rattle.certificate_maker.proofs.Tying.{Stands, looks-long, next-is}

-- what is made of the levels from one on is written after what is written so far
pub record Going (claim : Claim) (level : ℕ) (nodes : List Node) (text : List ℕ) : Type 0 where
  pub kept : List Prefix
  pub stands : Stands claim level nodes kept
  pub give : (levels : List (List (List Verdict))) → AreMade claim level kept levels → LevelsSmall level levels → IsWritten claim (text ++ ended (level_lines level levels))

opened : (a b rest : List ℕ) → (a ++ line_end ∷ (b ++ line_end ∷ [])) ++ rest ≡ a ++ line_end ∷ (b ++ line_end ∷ rest)
opened a b rest = append_assoc a (line_end ∷ (b ++ line_end ∷ [])) rest ∙ ap (λ (l : List ℕ). a ++ line_end ∷ l) (append_assoc b (line_end ∷ []) rest)

pub going-start : (claim : Claim) (nodes : List Node) (text : List ℕ) → AreSettings claim.g → nodes ≡ root_node (start_of claim.g) ∷ [] → text ≡ ended (first_line claim.grain ∷ (best_line claim.actions ∷ [])) → Going claim 0 nodes text
going-start claim nodes text settings is opening = record {
  kept = empty_prefix claim.g ∷ [];
  stands = record {
    looks = subst (λ (ns : List Node). Looks ns (empty_prefix claim.g ∷ [])) (sym is) (refl, refl, tt);
    ordered = (λ q here. absurd here, tt);
    facts = λ p here. start-prefix claim.g p settings here;
  };
  give = λ levels made small. record {
    levels = levels;
    made = made;
    small = small;
    is = ap (λ (l : List ℕ). l ++ ended (level_lines 0 levels)) opening ∙ opened (first_line claim.grain) (best_line claim.actions) (ended (level_lines 0 levels));
  };
}

ended-append : (xs ys : List (List ℕ)) → ended (xs ++ ys) ≡ ended xs ++ ended ys
ended-append [] ys = refl
ended-append (x ∷ xs) ys = ap (λ (l : List ℕ). x ++ line_end ∷ l) (ended-append xs ys) ∙ sym (append_assoc x (line_end ∷ ended xs) (ended ys))

levelled : (text line rows later : List ℕ) → ((text ++ (line ++ line_end ∷ [])) ++ rows) ++ later ≡ text ++ (line ++ line_end ∷ (rows ++ later))
levelled text line rows later =
    append_assoc (text ++ (line ++ line_end ∷ [])) rows later ∙ append_assoc text (line ++ line_end ∷ []) (rows ++ later) ∙ ap (λ (l : List ℕ). text ++ l) (append_assoc line (line_end ∷ []) (rows ++ later))

pub going-next : (claim : Claim) (level left count : ℕ) (nodes next : List Node) (text headed after : List ℕ) → left ≡ left_after claim level → count ≡ length nodes → 0 < count → count < 2 ^ 64 → level < 2 ^ 64 → headed ≡ text ++ (level_line level count ++ line_end ∷ []) →
    next ≡ next_nodes claim left nodes → length next < 2 ^ 64 → IsLevelText next (level_marks claim left nodes) headed after → Going claim level nodes text → Going claim (level + 1) next after
going-next claim level left count nodes next text headed after lefts counts some few low head is small said going =
    let kept = going.kept in
    let follows = next-is claim level nodes kept going.stands in
    let later : List Prefix = next_level claim level kept in
    let rows : List (List Verdict) = map (row_of claim level later) kept in
    let same : next ≡ next_nodes claim (left_after claim level) nodes = is ∙ ap (λ (n : ℕ). next_nodes claim n nodes) lefts in
    let many : length kept ≡ count = sym (counts ∙ looks-long nodes kept going.stands.looks) in
    let rows_long : length rows ≡ count = length-map kept (row_of claim level later) ∙ many in
    let are = subst (λ (ns : List Node). AreBuckets ns said.buckets) same said.are in
    let written : after ≡ (text ++ (level_line level count ++ line_end ∷ [])) ++ ended (map row_line rows) =
    said.is ∙ ap (λ (l : List ℕ). l ++ marks_text said.buckets true (level_marks claim left nodes)) head
    ∙ ap (λ (l : List ℕ). (text ++ (level_line level count ++ line_end ∷ [])) ++ l) (ap (λ (n : ℕ). marks_text said.buckets true (level_marks claim n nodes)) lefts ∙ level-text claim level nodes kept said.buckets going.stands are) in
    let stands : Stands claim (level + 1) next later = subst (λ (ns : List Node). Stands claim (level + 1) ns later) (sym same) follows.stands in
    let few_later : length later < 2 ^ 64 = omega (arith, small, looks-long next later stands.looks) in
    record {
      kept = later;
      stands = stands;
      give = λ levels made smalls.
          let all = going.give (rows ∷ levels) (omega (arith, some, many), refl, made) (low, omega (arith, rows_long, few), rows-small claim level later kept few_later, smalls) in
          let shown : text ++ ended (level_lines level (rows ∷ levels)) ≡ after ++ ended (level_lines (level + 1) levels) =
          ap (λ (l : List ℕ). text ++ (level_line level (length rows) ++ line_end ∷ l)) (ended-append (map row_line rows) (level_lines (level + 1) levels))
          ∙ ap (λ (n : ℕ). text ++ (level_line level n ++ line_end ∷ (ended (map row_line rows) ++ ended (level_lines (level + 1) levels)))) rows_long
          ∙ sym (ap (λ (l : List ℕ). l ++ ended (level_lines (level + 1) levels)) written ∙ levelled text (level_line level count) (ended (map row_line rows)) (ended (level_lines (level + 1) levels))) in
          subst (λ (l : List ℕ). IsWritten claim l) shown all;
    }

nothing : (ps : List Prefix) → length ps ≡ 0 → ps ≡ []
nothing [] h = refl
nothing (p ∷ ps) h = absurd (omega (arith, h))

pub going-end : (claim : Claim) (level count : ℕ) (nodes : List Node) (text after : List ℕ) → count ≡ length nodes → count ≡ 0 → level < 2 ^ 64 → after ≡ text ++ (level_line level count ++ line_end ∷ []) → Going claim level nodes text → IsWritten claim after
going-end claim level count nodes text after counts none low is going =
    let empty : going.kept ≡ [] = nothing going.kept (omega (arith, looks-long nodes going.kept going.stands.looks, counts, none)) in
    subst (λ (l : List ℕ). IsWritten claim l) (sym (is ∙ ap (λ (n : ℕ). text ++ (level_line level n ++ line_end ∷ [])) none)) (going.give [] empty low)
