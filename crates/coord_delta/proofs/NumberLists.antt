-- Numbers that are spelled one after another.
use Rattle.std.proofs.Common.{◌≡◌, ℕ, ◌+◌, ◌-◌, ◌^◌, ◌<◌, ◌≤◌, List, [], ◌∷◌, ◌++◌, length, take, drop, Result, Ok, Err, refl, sym, ap, subst, ◌∙◌, append_assoc, arith}
use Rattle.std.specs.Prelude.{slice_range}
use Rattle.std.specs.List.{AllByRecursion}
use Rattle.std.proofs.lemmas.Grind.{flat_map-append}
use Rattle.std.proofs.lemmas.List.{length-append, length-take, length-drop, drop-drop, append-nil}
use Rattle.std.proofs.Math.Seq.{take-add, drop-append_seam}
use Rattle.obf_wire.specs.declared.breaks.WireKind.{WireKind}
use Rattle.obf_wire.specs.declared.breaks.WireKind.TheVariants.{Short, LongVarint, BadKey, OverEnd}
use Rattle.obf_wire.specs.Varint.{varint, varint_in, IsSpelled}
use Rattle.obf_wire.proofs.Writing.{varint_again}
use Rattle.obf_wire.proofs.Spellings.{begins, begins_only, cut_only, overlong_only}
use Rattle.coord_delta.specs.Steps.{IsNumber, number_list, ArePairs, IsNone}

-- ---- parts of bytes

pub range-join : (bytes : List ℕ) (at mid end : ℕ) → at ≤ mid → mid ≤ end → slice_range bytes at end ≡ slice_range bytes at mid ++ slice_range bytes mid end
range-join bytes at mid end first second =
    let parts : end - at ≡ (mid - at) + (end - mid) = omega arith in
    let there : at + (mid - at) ≡ mid = omega arith in
    ap (λ (k : ℕ). take k (drop at bytes)) parts
    ∙ take-add (mid - at) (end - mid) (drop at bytes)
    ∙ ap (λ (t : List ℕ). take (mid - at) (drop at bytes) ++ take (end - mid) t) (drop-drop (mid - at) at bytes ∙ ap (λ (k : ℕ). drop k bytes) there)

pub length-range : (bytes : List ℕ) (at end : ℕ) → at ≤ end → end ≤ length bytes → length (slice_range bytes at end) ≡ end - at
length-range bytes at end from_in end_in = omega (arith, length-take (end - at) (drop at bytes), length-drop at bytes)

pub range-none : (bytes : List ℕ) (at : ℕ) → slice_range bytes at at ≡ []
range-none bytes at = let none : at - at ≡ 0 = omega arith in ap (λ (k : ℕ). take k (drop at bytes)) none

-- ---- where no number begins

abbrev pub NoneBegins : List ℕ → Type 0
NoneBegins bytes = IsSpelled bytes → ⊥

begun : (n : ℕ) (rest : List ℕ) → n < 2 ^ 64 → IsSpelled (varint n ++ rest)
begun n rest fits = (n, length (varint n), begins (varint n ++ rest) n (length (varint n)) (varint_again n rest fits))

abbrev ok : ℕ × ℕ → Result (ℕ × ℕ) WireKind
ok x = Ok x

abbrev err : WireKind → Result (ℕ × ℕ) WireKind
err kind = Err kind

pub none_of : (kind : WireKind) (bytes : List ℕ) → IsNone kind bytes → NoneBegins bytes
none_of Short bytes cut s =
    let one : varint_in bytes ≡ err Short = cut_only bytes cut in
    let other : varint_in bytes ≡ ok (s.0, s.1) = begins_only bytes s.0 s.1 s.2 in
    cc
none_of LongVarint bytes over s =
    let one : varint_in bytes ≡ err LongVarint = overlong_only bytes over in
    let other : varint_in bytes ≡ ok (s.0, s.1) = begins_only bytes s.0 s.1 s.2 in
    cc
none_of BadKey bytes none s = absurd none
none_of OverEnd bytes none s = absurd none

nothing_begins : NoneBegins []
unfolding varint_in
nothing_begins s =
    let other : varint_in [] ≡ ok (s.0, s.1) = begins_only [] s.0 s.1 s.2 in
    let one : varint_in [] ≡ err Short = refl in
    cc

pub kind_one : (k j : WireKind) (bytes : List ℕ) → IsNone k bytes → IsNone j bytes → k ≡ j
kind_one Short Short bytes a b = refl
kind_one Short LongVarint bytes a b =
    let one : varint_in bytes ≡ err Short = cut_only bytes a in
    let other : varint_in bytes ≡ err LongVarint = overlong_only bytes b in
    cc
kind_one LongVarint Short bytes a b =
    let one : varint_in bytes ≡ err Short = cut_only bytes b in
    let other : varint_in bytes ≡ err LongVarint = overlong_only bytes a in
    cc
kind_one LongVarint LongVarint bytes a b = refl
kind_one BadKey j bytes a b = absurd a
kind_one OverEnd j bytes a b = absurd a
kind_one Short BadKey bytes a b = absurd b
kind_one Short OverEnd bytes a b = absurd b
kind_one LongVarint BadKey bytes a b = absurd b
kind_one LongVarint OverEnd bytes a b = absurd b

-- ---- bytes are parted in one way

number_in : Result (ℕ × ℕ) WireKind → ℕ
number_in (Ok x) = x.0
number_in (Err kind) = 0

same_number : (n m : ℕ) (r s : List ℕ) → n < 2 ^ 64 → m < 2 ^ 64 → varint n ++ r ≡ varint m ++ s → n ≡ m
unfolding number_in
same_number n m r s n_fits m_fits e =
    let one = sym (varint_again n r n_fits) ∙ ap varint_in e ∙ varint_again m s m_fits in
    ap number_in one

pub one_split : (ns ms r s : List ℕ) → AllByRecursion IsNumber ns → AllByRecursion IsNumber ms → NoneBegins r → NoneBegins s → number_list ns ++ r ≡ number_list ms ++ s → (ns ≡ ms) × (r ≡ s)
one_split [] [] r s n_fit m_fit r_none s_none e = (refl, e)
one_split [] (m ∷ ms) r s n_fit m_fit r_none s_none e =
    absurd (r_none (subst IsSpelled (sym (append_assoc (varint m) (number_list ms) s) ∙ sym e) (begun m (number_list ms ++ s) m_fit.0)))
one_split (n ∷ ns) [] r s n_fit m_fit r_none s_none e =
    absurd (s_none (subst IsSpelled (sym (append_assoc (varint n) (number_list ns) r) ∙ e) (begun n (number_list ns ++ r) n_fit.0)))
one_split (n ∷ ns) (m ∷ ms) r s n_fit m_fit r_none s_none e =
    let parted : varint n ++ (number_list ns ++ r) ≡ varint m ++ (number_list ms ++ s) = sym (append_assoc (varint n) (number_list ns) r) ∙ e ∙ append_assoc (varint m) (number_list ms) s in
    let first : n ≡ m = same_number n m (number_list ns ++ r) (number_list ms ++ s) n_fit.0 m_fit.0 parted in
    let behind : number_list ns ++ r ≡ number_list ms ++ s =
    sym (drop-append_seam (varint n) (number_list ns ++ r))
    ∙ ap (drop (length (varint n))) parted
    ∙ ap (λ (k : ℕ). drop (length (varint k)) (varint m ++ (number_list ms ++ s))) first
    ∙ drop-append_seam (varint m) (number_list ms ++ s) in
    let rest = one_split ns ms r s n_fit.1 m_fit.1 r_none s_none behind in
    (ap (λ (k : ℕ). k ∷ ns) first ∙ ap (λ (ks : List ℕ). m ∷ ks) rest.0, rest.1)

-- ---- numbers behind others

pub all_append : (ns ms : List ℕ) → AllByRecursion IsNumber ns → AllByRecursion IsNumber ms → AllByRecursion IsNumber (ns ++ ms)
all_append [] ms a b = b
all_append (n ∷ ns) ms a b = (a.0, all_append ns ms a.1 b)

pub no_pairs : ArePairs [] []
no_pairs = record { fit = tt; spelled = refl; whole = refl }

pub numbers_append : (bytes more ns ms : List ℕ) → bytes ≡ number_list ns → more ≡ number_list ms → bytes ++ more ≡ number_list (ns ++ ms)
numbers_append bytes more ns ms a b = ap (λ (t : List ℕ). t ++ more) a ∙ ap (λ (t : List ℕ). number_list ns ++ t) b ∙ sym (flat_map-append varint ns ms)

pub pairs_append : (bytes more ns ms : List ℕ) → ArePairs bytes ns → ArePairs more ms → ArePairs (bytes ++ more) (ns ++ ms)
pairs_append bytes more ns ms a b = record {
  fit = all_append ns ms a.fit b.fit;
  spelled = numbers_append bytes more ns ms a.spelled b.spelled;
  whole = omega (arith, length-append ns ms, a.whole, b.whole);
}

-- pairs are parted in one way
pub one_pairs : (bytes ns ms : List ℕ) → ArePairs bytes ns → ArePairs bytes ms → ns ≡ ms
one_pairs bytes ns ms a b =
    let same : number_list ns ++ [] ≡ number_list ms ++ [] = append-nil (number_list ns) ∙ sym a.spelled ∙ b.spelled ∙ sym (append-nil (number_list ms)) in
    let parts = one_split ns ms [] [] a.fit b.fit nothing_begins nothing_begins same in
    parts.0

-- pairs are not the front of other numbers
pub pairs_end : (bytes ns ms rest : List ℕ) → ArePairs bytes ns → AllByRecursion IsNumber ms → NoneBegins rest → bytes ≡ number_list ms ++ rest → (ns ≡ ms) × ([] ≡ rest)
pairs_end bytes ns ms rest a fit none e =
    one_split ns ms [] rest a.fit fit nothing_begins none (append-nil (number_list ns) ∙ sym a.spelled ∙ e)
