-- A walk over lines: those up to a place, and those from a place on.
use Rattle.std.proofs.Common.{◌≡◌, ℕ, ◌+◌, ◌<◌, List, [], ◌∷◌, ◌++◌, length, take, drop, sym, refl, ap, ◌∙◌, append_assoc, arith, length-drop, take-add}
use Rattle.std.proofs.lemmas.List.{append-nil, take_at, drop_at, drop-drop}
use Rattle.tariff.specs.Grammar.{lines_text, LinesFrom}
use Rattle.lines.specs.Reads.{LineAt}
use Rattle.lines.specs.Texts.{line_text}

pub lines_text_push : (letter : ℕ) (nss : List (List ℕ)) (ns : List ℕ) → lines_text letter (nss ++ (ns ∷ [])) ≡ lines_text letter nss ++ line_text letter ns
lines_text_push letter [] ns = append-nil (line_text letter ns)
lines_text_push letter (ms ∷ nss) ns =
    ap (λ (t : List ℕ). line_text letter ms ++ t) (lines_text_push letter nss ns) ∙ sym (append_assoc (line_text letter ms) (lines_text letter nss) (line_text letter ns))

-- bytes that are lines up to a place, and a line more
pub text_more : (bytes : List ℕ) (letter place next : ℕ) (nss : List (List ℕ)) (ns : List ℕ) → take place bytes ≡ lines_text letter nss → LineAt bytes place letter ns →
    next ≡ place + length (line_text letter ns) → take next bytes ≡ lines_text letter (nss ++ (ns ∷ []))
text_more bytes letter place next nss ns before line end =
    ap (λ (k : ℕ). take k bytes) end ∙ take-add place (length (line_text letter ns)) bytes ∙ ap (λ (t : List ℕ). t ++ take (length (line_text letter ns)) (drop place bytes)) before
    ∙ ap (λ (t : List ℕ). lines_text letter nss ++ t) line.stands ∙ sym (lines_text_push letter nss ns)

module _ (bytes : List ℕ) (letter count : ℕ) where
  -- where bytes are left, a line stands, and lines follow it
  pub lines_from_next : (place : ℕ) → place < length bytes → LinesFrom bytes place letter count →
      (ns : List ℕ) × (length ns ≡ count) × LineAt bytes place letter ns × LinesFrom bytes (place + length (line_text letter ns)) letter count
  lines_from_next place some ([], lines) = absurd (omega (arith, ap length lines.text, length-drop place bytes))
  lines_from_next place some (ns ∷ nss, lines) =
      let text = line_text letter ns in (
        ns,
        lines.each.0.many,
        record { small = lines.each.0.small; stands = ap (take (length text)) lines.text ∙ take_at text (lines_text letter nss) (length text) refl },
        (nss, record { each = lines.each.1; text = sym (drop-drop (length text) place bytes) ∙ ap (drop (length text)) lines.text ∙ drop_at text (lines_text letter nss) (length text) refl }),
      )
