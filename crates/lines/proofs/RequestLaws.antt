-- Request lines. A line is its five parts, each a number in columns, so the laws of columns carry over part by part.
use mathlib.Core.Path.{◌≡◌, refl, sym, ap, ◌∙◌, subst}
use mathlib.Core.Bool.{Bool, true, ◌&&◌, false≢true}
use mathlib.Core.List.{List, [], ◌∷◌, ◌++◌}
use Prim.Native.Nat.{ℕ, zero, suc, ◌+◌, ◌-◌, ◌*◌, ◌/◌, ◌^◌, ◌≤◌, ◌<◌}
use native.Mathlib.Omega.{arith}
use lib.Dec.{ltb, eqb}
use lib.ListN.{length, drop, get_or, length-append, drop_of_length-le}
use borrow.Author.Tests.{eq-eqb, eqb-true, lt-ltb, ltb-true}
use Rattle.lists.specs.Lists.{All, part}
use Rattle.lists.proofs.Cases.{by_cases}
use Rattle.lists.proofs.AppendLaws.{all_append}
use Rattle.lists.proofs.Tests.{and_true, and_three, untrue, all_tab}
use Rattle.lists.proofs.Parts.{part_front, part_past, part_next, length_part}
use Rattle.lines.specs.declared.Request.{Request}
use Rattle.std.specs.Prelude.{Option, Some, None, option_and_then, ◌==◌}
use Rattle.std.specs.List.{list_all}
use Rattle.std.proofs.lemmas.Option.{same_Some, none-some, option_and_then_some}
use Rattle.lines.specs.declared.Request.TheVariants.{SetUp, Enter, Find, Next, Range, Summary, Dump, Remove}
use Rattle.lines.specs.declared.Kind.{Kind}
use Rattle.lines.specs.declared.Kind.TheVariants as kinds
use Rattle.lines.specs.Columns.{plain, skipped, number_of, is_number, byte_at, column}
use Rattle.lines.specs.Request.{kind_number, kind_numbered, kind_of, fields_of, columns, request_line, field_of, unused, request_of, well_formed, parsed}
use Rattle.lines.specs.Reply.{line_feed}
use Rattle.lines.proofs.ColumnLaws.{length_column, column_plain, column_read}

-- the request that the numbers of a kind and four fields make
abbrev pub made : ℕ → ℕ → ℕ → ℕ → ℕ → Option Request
made k a b c d = option_and_then (λ (kind : Kind). request_of kind a b c d) (kind_numbered k)

-- columns that hold a number
abbrev pub Holds : List ℕ → ℕ → Type 0
Holds bs n = (is_number bs ≡ true) × (number_of bs ≡ n)

holds_column : (w n : ℕ) (bs : List ℕ) → bs ≡ column w n → 1 ≤ w → n < 10 ^ w → n < 2 ^ 32 → Holds bs n
unfolding is_number
holds_column w n bs e h l m =
    let p = column_plain w n h l in
    rw e (rw (p.0, p.1, lt-ltb n (2 ^ 32) m), p.1)

-- a line whose kind and four fields are numbers
pub record Formed (bs : List ℕ) : Type 0 where
  pub whole : length bs ≡ 42
  pub kind : is_number (part bs 0 2) ≡ true
  pub first : is_number (field_of bs 0) ≡ true
  pub second : is_number (field_of bs 1) ≡ true
  pub third : is_number (field_of bs 2) ≡ true
  pub fourth : is_number (field_of bs 3) ≡ true

formed_facts : (bs : List ℕ) → well_formed bs ≡ true → Formed bs
unfolding well_formed
formed_facts bs e =
    let n : ℕ → Bool = λ j. is_number (field_of bs j) in
    let head : Bool = eqb (length bs) 42 && is_number (part bs 0 2) in
    let a = and_three (head && n 0 && n 1) (n 2) (n 3) e in
    let b = and_three head (n 0) (n 1) a.0 in
    let c = and_true (eqb (length bs) 42) (is_number (part bs 0 2)) b.0 in
    record {
      whole = eqb-true (length bs) 42 c.0;
      kind = c.1;
      first = b.1;
      second = b.2;
      third = a.1;
      fourth = a.2;
    }

pub parsed_wrong : (bs : List ℕ) → (Formed bs → ⊥) → parsed bs ≡ None
unfolding parsed
parsed_wrong bs h = rw (sym (untrue (λ e. h (formed_facts bs e))), parsed)

formed_test : (bs : List ℕ) → Formed bs → well_formed bs ≡ true
unfolding well_formed
formed_test bs f = rw (eq-eqb (length bs) 42 f.whole, f.kind, f.first, f.second, f.third, f.fourth)

pub parsed_right : (bs : List ℕ) (k a b c d : ℕ) → length bs ≡ 42 → Holds (part bs 0 2) k → Holds (field_of bs 0) a
    → Holds (field_of bs 1) b → Holds (field_of bs 2) c → Holds (field_of bs 3) d → parsed bs ≡ made k a b c d
unfolding parsed
parsed_right bs k a b c d l hk ha hb hc hd =
    let f : Formed bs = record { whole = l; kind = hk.0; first = ha.0; second = hb.0; third = hc.0; fourth = hd.0 } in
    rw (formed_test bs f, parsed) (rw (hk.1, ha.1, hb.1, hc.1, hd.1))

length_columns : (ns : List ℕ) → length (columns ns) ≡ 10 * length ns
length_columns [] = refl
length_columns (n ∷ ns) =
    length-append (column 10 n) (columns ns) ∙ omega (arith, length_column 10 n, length_columns ns)

part_columns : (ns : List ℕ) (j : ℕ) → j < length ns → part (columns ns) (10 * j) 10 ≡ column 10 (get_or ns j 0)
part_columns [] j h = absurd (omega arith)
part_columns (n ∷ ns) zero h = part_front (column 10 n) (columns ns) 10 (length_column 10 n)
part_columns (n ∷ ns) (suc j) h =
    part_past (column 10 n) (columns ns) (10 * suc j) (10 * j) 10 (omega (arith, length_column 10 n)) ∙ part_columns ns j (omega arith)

field_at : (k : ℕ) (ns : List ℕ) (j : ℕ) → j < length ns → field_of (column 2 k ++ columns ns) j ≡ column 10 (get_or ns j 0)
unfolding field_of
field_at k ns j h =
    part_past (column 2 k) (columns ns) (2 + 10 * j) (10 * j) 10 (omega (arith, length_column 2 k)) ∙ part_columns ns j h

parsed_line : (k a b c d : ℕ) → k < 100 → a < 2 ^ 32 → b < 2 ^ 32 → c < 2 ^ 32 → d < 2 ^ 32
    → parsed (column 2 k ++ columns (a ∷ b ∷ c ∷ d ∷ [])) ≡ made k a b c d
parsed_line k a b c d hk ha hb hc hd =
    let ns : List ℕ = a ∷ b ∷ c ∷ d ∷ [] in
    let line : List ℕ = column 2 k ++ columns ns in
    let l : length line ≡ 42 = length-append (column 2 k) (columns ns) ∙ omega (arith, length_column 2 k, length_columns ns) in
    let front = part_front (column 2 k) (columns ns) 2 (length_column 2 k) in
    let field : (j n : ℕ) → j < 4 → get_or ns j 0 ≡ n → n < 2 ^ 32 → Holds (field_of line j) n =
    λ j n h e m. holds_column 10 n (field_of line j) (field_at k ns j h ∙ ap (column 10) e) (omega arith) (omega arith) m
    in
    parsed_right line k a b c d l
    (holds_column 2 k (part line 0 2) front (omega arith) (omega arith) (omega arith))
    (field 0 a (omega arith) refl ha)
    (field 1 b (omega arith) refl hb)
    (field 2 c (omega arith) refl hc)
    (field 3 d (omega arith) refl hd)

number_columns : (bs : List ℕ) (a w : ℕ) → a + w ≤ length bs → is_number (part bs a w) ≡ true
    → part bs a w ≡ column w (number_of (part bs a w))
unfolding is_number
number_columns bs a w h e =
    let p = and_true (plain (skipped (part bs a w))) (ltb (number_of (part bs a w)) (2 ^ 32)) e in
    sym (column_read (part bs a w) p.0) ∙ ap (λ k. column k (number_of (part bs a w))) (length_part bs a w h)

-- a well-formed line is the columns of its numbers
line_of : (bs : List ℕ) → Formed bs → bs ≡ column 2 (number_of (part bs 0 2))
    ++ columns (number_of (field_of bs 0) ∷ number_of (field_of bs 1) ∷ number_of (field_of bs 2) ∷ number_of (field_of bs 3) ∷ [])
unfolding field_of
line_of bs f =
    let l = f.whole in
    let next : (a n m : ℕ) (ys : List ℕ) → a + n ≡ m → m ≤ 42 → is_number (part bs a n) ≡ true → drop m bs ≡ ys
    → drop a bs ≡ column n (number_of (part bs a n)) ++ ys =
    λ a n m ys e h t r. part_next bs a n (omega arith) ∙ ap (λ k. part bs a n ++ drop k bs) e ∙ ap (λ l. part bs a n ++ l) r
    ∙ ap (λ l. l ++ ys) (number_columns bs a n (omega arith) t)
    in
    next 0 2 2 _ refl (omega arith) f.kind
    (next 2 10 12 _ refl (omega arith) f.first
    (next 12 10 22 _ refl (omega arith) f.second
    (next 22 10 32 _ refl (omega arith) f.third
    (next 32 10 42 [] refl (omega arith) f.fourth (drop_of_length-le bs {i = 42} (omega arith))))))

-- The kind of a number has that number.
kind_kept : (k : ℕ) (kind : Kind) → kind_numbered k ≡ Some kind → kind_number kind ≡ k
unfolding kind_numbered
kind_kept zero kind e = ap kind_number (sym (same_Some kinds.SetUp kind e))
kind_kept (suc zero) kind e = ap kind_number (sym (same_Some kinds.Enter kind e))
kind_kept (suc (suc zero)) kind e = ap kind_number (sym (same_Some kinds.Find kind e))
kind_kept (suc (suc (suc zero))) kind e = ap kind_number (sym (same_Some kinds.Next kind e))
kind_kept (suc (suc (suc (suc zero)))) kind e = ap kind_number (sym (same_Some kinds.Range kind e))
kind_kept (suc (suc (suc (suc (suc zero))))) kind e = ap kind_number (sym (same_Some kinds.Summary kind e))
kind_kept (suc (suc (suc (suc (suc (suc zero)))))) kind e = ap kind_number (sym (same_Some kinds.Dump kind e))
kind_kept (suc (suc (suc (suc (suc (suc (suc zero))))))) kind e = ap kind_number (sym (same_Some kinds.Remove kind e))
kind_kept (suc (suc (suc (suc (suc (suc (suc (suc k)))))))) kind e = absurd (none-some kind e)

-- What a request keeps of the kind and the fields that made it.
unused_kept : (q r : Request) (ns : List ℕ) → unused q ns ≡ Some r → (list_all (λ n. n == 0) ns ≡ true) × (q ≡ r)
unfolding unused
unused_kept q r ns e =
    by_cases (list_all (λ n. n == 0) ns)
    (λ t. (t, same_Some q r (rw (t, unused) at e)))
    (λ t. absurd (none-some r (rw (t, unused) at e)))

zero_first : (n : ℕ) (ns : List ℕ) → list_all (λ n. n == 0) (n ∷ ns) ≡ true → (0 ≡ n) × (list_all (λ n. n == 0) ns ≡ true)
zero_first n ns e =
    let a = and_true (eqb n 0) (list_all (λ n. n == 0) ns) e in
    (sym (eqb-true n 0 a.0), a.1)

abbrev Kept : Request → Kind → ℕ → ℕ → ℕ → ℕ → Type 0
Kept r kind a b c d = (kind_of r ≡ kind) × (fields_of r ≡ a ∷ b ∷ c ∷ d ∷ [])

request_kept : (kind : Kind) (a b c d : ℕ) (r : Request) → request_of kind a b c d ≡ Some r → Kept r kind a b c d
unfolding request_of
request_kept kinds.SetUp a b c d r e = subst (λ (q : Request). Kept q kinds.SetUp a b c d) (same_Some (SetUp a b c d) r e) (refl, refl)
request_kept kinds.Enter a b c d r e = subst (λ (q : Request). Kept q kinds.Enter a b c d) (same_Some (Enter a b c d) r e) (refl, refl)
request_kept kinds.Find a b c d r e =
    let u = unused_kept (Find a) r (b ∷ c ∷ d ∷ []) e in
    let b₀ = zero_first b (c ∷ d ∷ []) u.0 in
    let c₀ = zero_first c (d ∷ []) b₀.1 in
    let d₀ = zero_first d ([]) c₀.1 in
    subst (λ (q : Request). Kept q kinds.Find a b c d) u.1 (refl, rw (sym b₀.0, sym c₀.0, sym d₀.0))
request_kept kinds.Next a b c d r e =
    let u = unused_kept (Next a) r (b ∷ c ∷ d ∷ []) e in
    let b₀ = zero_first b (c ∷ d ∷ []) u.0 in
    let c₀ = zero_first c (d ∷ []) b₀.1 in
    let d₀ = zero_first d ([]) c₀.1 in
    subst (λ (q : Request). Kept q kinds.Next a b c d) u.1 (refl, rw (sym b₀.0, sym c₀.0, sym d₀.0))
request_kept kinds.Range a b c d r e =
    let u = unused_kept (Range a b) r (c ∷ d ∷ []) e in
    let c₀ = zero_first c (d ∷ []) u.0 in
    let d₀ = zero_first d ([]) c₀.1 in
    subst (λ (q : Request). Kept q kinds.Range a b c d) u.1 (refl, rw (sym c₀.0, sym d₀.0))
request_kept kinds.Summary a b c d r e =
    let u = unused_kept (Summary a b c) r (d ∷ []) e in
    let d₀ = zero_first d ([]) u.0 in
    subst (λ (q : Request). Kept q kinds.Summary a b c d) u.1 (refl, rw (sym d₀.0))
request_kept kinds.Dump a b c d r e =
    let u = unused_kept Dump r (a ∷ b ∷ c ∷ d ∷ []) e in
    let a₀ = zero_first a (b ∷ c ∷ d ∷ []) u.0 in
    let b₀ = zero_first b (c ∷ d ∷ []) a₀.1 in
    let c₀ = zero_first c (d ∷ []) b₀.1 in
    let d₀ = zero_first d ([]) c₀.1 in
    subst (λ (q : Request). Kept q kinds.Dump a b c d) u.1 (refl, rw (sym a₀.0, sym b₀.0, sym c₀.0, sym d₀.0))
request_kept kinds.Remove a b c d r e =
    let u = unused_kept (Remove a) r (b ∷ c ∷ d ∷ []) e in
    let b₀ = zero_first b (c ∷ d ∷ []) u.0 in
    let c₀ = zero_first c (d ∷ []) b₀.1 in
    let d₀ = zero_first d ([]) c₀.1 in
    subst (λ (q : Request). Kept q kinds.Remove a b c d) u.1 (refl, rw (sym b₀.0, sym c₀.0, sym d₀.0))

pub line_kept : (bs : List ℕ) (r : Request) → parsed bs ≡ Some r → request_line r ≡ bs
unfolding request_line
line_kept bs r h =
    by_cases (well_formed bs)
    (λ e.
    let f = formed_facts bs e in
    let k : ℕ = number_of (part bs 0 2) in
    let n : ℕ → ℕ = λ j. number_of (field_of bs j) in
    let p : parsed bs ≡ made k (n 0) (n 1) (n 2) (n 3) =
    parsed_right bs k (n 0) (n 1) (n 2) (n 3) f.whole (f.kind, refl) (f.first, refl) (f.second, refl) (f.third, refl)
    (f.fourth, refl)
    in
    option_and_then_some (λ (kind : Kind). request_of kind (n 0) (n 1) (n 2) (n 3)) (kind_numbered k) r (sym p ∙ h)
    (λ (kind : Kind) s q.
    let g = request_kept kind (n 0) (n 1) (n 2) (n 3) r q in
    ap (λ (i : Kind). column 2 (kind_number i) ++ columns (fields_of r)) g.0
    ∙ ap (λ m. column 2 m ++ columns (fields_of r)) (kind_kept k kind s)
    ∙ ap (λ l. column 2 k ++ columns l) g.1 ∙ sym (line_of bs f)))
    (λ e. absurd (none-some r (sym (parsed_wrong bs (λ f. false≢true (sym e ∙ formed_test bs f))) ∙ h)))

pub line_parsed : (r : Request) → All (λ n. n < 2 ^ 32) (fields_of r) → parsed (request_line r) ≡ Some r
unfolding request_line request_of unused kind_numbered
line_parsed (SetUp a b c d) h = parsed_line 0 a b c d (omega arith) h.0 h.1.0 h.1.1.0 h.1.1.1.0
line_parsed (Enter a b c d) h = parsed_line 1 a b c d (omega arith) h.0 h.1.0 h.1.1.0 h.1.1.1.0
line_parsed (Find a) h = parsed_line 2 a 0 0 0 (omega arith) h.0 h.1.0 h.1.1.0 h.1.1.1.0
line_parsed (Next a) h = parsed_line 3 a 0 0 0 (omega arith) h.0 h.1.0 h.1.1.0 h.1.1.1.0
line_parsed (Range a b) h = parsed_line 4 a b 0 0 (omega arith) h.0 h.1.0 h.1.1.0 h.1.1.1.0
line_parsed (Summary a b c) h = parsed_line 5 a b c 0 (omega arith) h.0 h.1.0 h.1.1.0 h.1.1.1.0
line_parsed Dump h = parsed_line 6 0 0 0 0 (omega arith) h.0 h.1.0 h.1.1.0 h.1.1.1.0
line_parsed (Remove a) h = parsed_line 7 a 0 0 0 (omega arith) h.0 h.1.0 h.1.1.0 h.1.1.1.0

-- the fields are 32-bit numbers
abbrev Small : Request → Type 0
Small r = All (λ n. n < 2 ^ 32) (fields_of r)

number_small : (bs : List ℕ) → is_number bs ≡ true → number_of bs < 2 ^ 32
unfolding is_number
number_small bs e = ltb-true (number_of bs) (2 ^ 32) (and_true (plain (skipped bs)) (ltb (number_of bs) (2 ^ 32)) e).1

pub fields_small : (bs : List ℕ) (r : Request) → parsed bs ≡ Some r → Small r
fields_small bs r h =
    by_cases (well_formed bs)
    (λ e.
    let f = formed_facts bs e in
    let k : ℕ = number_of (part bs 0 2) in
    let n : ℕ → ℕ = λ j. number_of (field_of bs j) in
    let p : parsed bs ≡ made k (n 0) (n 1) (n 2) (n 3) =
    parsed_right bs k (n 0) (n 1) (n 2) (n 3) f.whole (f.kind, refl) (f.first, refl) (f.second, refl) (f.third, refl)
    (f.fourth, refl)
    in
    option_and_then_some (λ (kind : Kind). request_of kind (n 0) (n 1) (n 2) (n 3)) (kind_numbered k) r (sym p ∙ h)
    (λ (kind : Kind) s q.
    let small : All (λ n. n < 2 ^ 32) (n 0 ∷ n 1 ∷ n 2 ∷ n 3 ∷ []) =
    (number_small _ f.first, (number_small _ f.second, (number_small _ f.third, (number_small _ f.fourth, tt)))) in
    subst (λ (ns : List ℕ). All (λ n. n < 2 ^ 32) ns) (sym (request_kept kind (n 0) (n 1) (n 2) (n 3) r q).1) small))
    (λ e. absurd (none-some r (sym (parsed_wrong bs (λ f. false≢true (sym e ∙ formed_test bs f))) ∙ h)))

-- no byte of a line is 0A: the columns have blanks and digits
column_printed : (w n : ℕ) → All (λ b. line_feed < b) (column w n)
unfolding column byte_at
column_printed w n =
    all_tab (λ b. line_feed < b) w (byte_at w n) (λ i h.
    by_cases (eqb (n / 10 ^ (w - 1 - i)) 0 && ltb i (w - 1))
    (λ e. rw (e, byte_at) (omega arith))
    (λ e. rw (e, byte_at) (omega arith)))

columns_printed : (ns : List ℕ) → All (λ b. line_feed < b) (columns ns)
columns_printed [] = tt
columns_printed (n ∷ ns) = all_append (λ b. line_feed < b) (column 10 n) (columns ns) (column_printed 10 n) (columns_printed ns)

pub line_printed : (r : Request) → All (λ b. line_feed < b) (request_line r)
unfolding request_line
line_printed r =
    all_append (λ b. line_feed < b) (column 2 (kind_number (kind_of r))) (columns (fields_of r)) (column_printed 2 (kind_number (kind_of r))) (columns_printed (fields_of r))
