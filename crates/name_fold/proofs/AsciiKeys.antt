-- The key of a text of ASCII is its lower case.
use Rattle.std.proofs.Common.{◌≡◌, ℕ, zero, suc, ◌<◌, List, [], ◌∷◌, sym, ◌∙◌, ap, arith, encode_utf8_all, map}
use Rattle.std.specs.Prelude.{All, chars}
use Rattle.std.specs.Char.{to_ascii_lowercase}
use Rattle.std.specs.Str.{IsAscii}
use Rattle.std.proofs.lemmas.Bool.Decides.{nat_tests}
use Rattle.std.proofs.lemmas.Str.{chars-IsAscii, encodes-IsAscii}
use Rattle.std.proofs.lemmas.Str.Ascii.{IsAscii-from_all}
use Rattle.caseless.specs.Caseless.{canonical_key}
use Rattle.caseless.proofs.CaselessLemmas.{All-chars, canonical_key-ascii, default_case_fold-ascii}
use Rattle.name_fold.specs.Keys.{key}

lower_ascii : (c : ℕ) → c < 128 → to_ascii_lowercase c < 128
lower_ascii c h = grind (arith, nat_tests)

all_lower : (cs : List ℕ) → All (λ c. c < 128) cs → All (λ c. c < 128) (map to_ascii_lowercase cs)
all_lower [] all k d lt = absurd (omega arith)
all_lower (c ∷ cs) all zero d lt = lower_ascii c (all zero 0 (omega arith))
all_lower (c ∷ cs) all (suc k) d lt = all_lower cs (λ j e less. all (suc j) e (omega arith)) k d (omega arith)

pub lower_is_key : (bs : List ℕ) → IsAscii bs → map to_ascii_lowercase bs ≡ key bs
unfolding key
lower_is_key bs ascii =
    let same : chars bs ≡ bs = chars-IsAscii bs ascii in
    let all : All (λ c. c < 128) (chars bs) = All-chars bs ascii in
    let lower : canonical_key (chars bs) ≡ map to_ascii_lowercase (chars bs) = canonical_key-ascii (chars bs) all ∙ default_case_fold-ascii (chars bs) all in
    ap (map to_ascii_lowercase) (sym same)
    ∙ sym (encodes-IsAscii (map to_ascii_lowercase (chars bs)) (IsAscii-from_all (map to_ascii_lowercase (chars bs)) (all_lower (chars bs) all)))
    ∙ ap encode_utf8_all (sym lower)
