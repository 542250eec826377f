-- A text is that of one row of verdicts at most.
use Rattle.std.proofs.Common.{◌≡◌, ◌∙◌, sym, ℕ, ◌==◌, List, [], ◌∷◌, length, slice_index, drop, refl, ap, arith, if◌then◌else◌}
use Rattle.std.specs.Str.Parse.{digits_value}
use Rattle.certificate_text.specs.declared.verdict.Verdict.{Verdict}
use Rattle.certificate_text.specs.declared.verdict.Verdict.TheVariants.{Complete, Failed, Limited, Late, Dominated, Kept}
use Rattle.certificate_text.specs.Text.{space, parts, Says, AllSay, IsRow}

-- the verdict of a first byte and the digits after it
abbrev decoded : ℕ → List ℕ → Verdict
decoded first digits =
    if first == 99 then Complete
    else if first == 102 then Failed
    else if first == 113 then Limited
    else if first == 115 then Late
    else if first == 107 then Kept
    else Dominated (digits_value 10 digits)

abbrev decode : List ℕ → Verdict
decode text = decoded (slice_index text 0) (drop 1 text)

says-decode : (v : Verdict) (text : List ℕ) → Says v text → decode text ≡ v
says-decode Complete text h = ap decode h
says-decode Failed text h = ap decode h
says-decode Limited text h = ap decode h
says-decode Late text h = ap decode h
says-decode (Dominated place) text h = ap decode h.1 ∙ ap Dominated h.2.value
says-decode Kept text h = ap decode h

pub says-same : (v w : Verdict) (text : List ℕ) → Says v text → Says w text → v ≡ w
says-same v w text h k = sym (says-decode v text h) ∙ says-decode w text k

pub all-say-same : (vs ws : List Verdict) (texts : List (List ℕ)) → AllSay vs texts → AllSay ws texts → vs ≡ ws
all-say-same [] [] [] h k = refl
all-say-same [] (w ∷ ws) [] h k = absurd k
all-say-same (v ∷ vs) ws [] h k = absurd h
all-say-same [] ws (text ∷ texts) h k = absurd h
all-say-same (v ∷ vs) [] (text ∷ texts) h k = absurd k
all-say-same (v ∷ vs) (w ∷ ws) (text ∷ texts) h k =
    ap (λ (x : Verdict). x ∷ vs) (says-same v w text h.0 k.0) ∙ ap (λ (x : List Verdict). w ∷ x) (all-say-same vs ws texts h.1 k.1)

pub row-same : (vs ws : List Verdict) (line : List ℕ) → IsRow vs line → IsRow ws line → length vs ≡ length ws → vs ≡ ws
row-same [] [] line h k same = refl
row-same [] (w ∷ ws) line h k same = absurd (omega (arith, same))
row-same (v ∷ vs) [] line h k same = absurd (omega (arith, same))
row-same (v ∷ vs) (w ∷ ws) line h k same = all-say-same (v ∷ vs) (w ∷ ws) (parts space line) h k
