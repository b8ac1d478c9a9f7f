-- One law for each test.
use borrow.Author.Rules.{rules}
use mathlib.Core.Path.{◌≡◌, refl, ap, ◌∙◌}
use mathlib.Core.Bool.{true}
use Prim.Native.Nat.{ℕ, ◌+◌, ◌-◌, ◌/◌, ◌^◌, ◌≤◌}
use native.Mathlib.Omega.{arith}
use Rattle.lists.proofs.Tests.{passed, failed}
use Rattle.store.specs.declared.Item.{Item}
use Rattle.store.specs.Format.{width}
use Rattle.store.proofs.HeadLaws.{width_within}
use Rattle.page.specs.Page.{count, key_at, Filled, page_rule}
use Rattle.page.proofs.Inside.{record_inside}
use Rattle.page.proofs.Laws.{rule_facts}
use Rattle.search.proofs.BlockLaws.{under_page}
use Rattle.search.proofs.TerminalLaws.{alike, unlike}
use Rattle.search.proofs.UseLaws.{at_node, at_asked, at_bits}
use Rattle.search.proofs.RowLaws.{page_filled, rows_other, rows_elsewhere, rows_alone, rows_whole}
use Rattle.search.proofs.reached_rows.Statement.{statement}
use Rattle.search.proofs.reached_rows.Tie as tie

-- the places: the call, the first key read
abbrev call : tie.After-read_one-item → tie.Start
call r = r.before.before.before

abbrev read : tie.Else-prefix → tie.After-read_one-item
read c = c.before.before.before.before.before

-- the page keeps the rule
ruled : (c : tie.After-page_at-page) → let a = c.args in page_rule a.f a.head.capacity c.page_at-page.result.now ≡ true
ruled c = rw c.page_at-page.ensures c.requires.2

full : (c : tie.After-page_at-page) → Filled c.args.f c.page_at-page.result.now
full c = page_filled c.requires.0 _ c.page_at-page.ensures (ruled c)

some : (c : tie.After-page_at-page) → 1 ≤ count c.page_at-page.result.now
some c = (rule_facts _ _ _ (ruled c)).some

first_is : (r : tie.After-read_one-item) → r.read_one-item.result.key ≡ key_at (call r).args.f r.page_at-page.result.now 0
first_is r = ap (λ (x : Item). x.key) r.read_one-item.ensures

low_is : (w : tie.After-width_of) → let a = (call w.before).args in w.width_of.result - a.t.used ≡ width a.f - a.t.used
low_is w = ap (λ (x : ℕ). x - (call w.before).args.t.used) w.width_of.ensures.0

-- the first key agrees with the sought one in the bits used before the terminal node
agreed : (c : tie.Else-prefix)
    → let a = (call (read c)).args in
    (read c).read_one-item.result.key / 2 ^ (width a.f - a.t.used) ≡ a.key / 2 ^ (width a.f - a.t.used)
agreed c =
    alike _ _ _ _ (low_is c.before.before.before.before) c.prefix.ensures c.prefix-2.ensures
    c.if-prefix.false

bits : (v : tie.After-own_entry-v) → let a = (call (read v.before)).args in a.t.used + v.own_entry-v.result.depth ≤ width a.f
bits v = let p = (call (read v.before)).requires in at_bits _ _ _ _ p.0 p.1 refl _ v.own_entry-v.ensures

page_at_requires : tie.Need-page_at-page-requires
page_at_requires c κs = under_page c.requires.0

read_one_requires : tie.Need-read_one-item-requires
read_one_requires c κs = (search rules, record_inside (full c) (some c))

sub_low : tie.Need-overflow_sub-low
sub_low c = let p = (call c.before.before).requires in omega (arith, (at_asked _ _ _ _ p.0 p.1 refl).3, c.width_of.ensures)

returns : tie.Need-returns-then-prefix
returns c =
    let t = c.before in
    let w = t.before.before.before.before in
    c.first_row.ensures
    ∙ rows_other _ _ _ _ _ _ _ w.page_at-page.ensures (first_is w.before)
    (unlike _ _ _ _ (low_is w) t.prefix.ensures t.prefix-2.ensures t.if-prefix.true)

own_entry_requires : tie.Need-own_entry-v-requires
own_entry_requires c κs = let p = (call (read c)).requires in at_asked _ _ _ _ p.0 p.1 refl

returns_2 : tie.Need-returns-then-v-p
returns_2 c =
    let v = c.before.before.before in
    let r = read v.before in
    c.first_row-then-v-p.ensures
    ∙ rows_elsewhere _ _ _ _ _ _ _ r.page_at-page.ensures (first_is r) (agreed v.before) v.own_entry-v.ensures
    c.if-v-p.true

add_keys_agree : tie.Need-overflow_add-t
add_keys_agree c = let v = c.before.before.before.before in omega (arith, bits v, width_within (call (read v.before)).args.f)

keys_agree_requires : tie.Need-keys_agree-requires
keys_agree_requires c κs =
    let v = c.before.before.before.before in
    let p = (read v.before).before in (bits v, some p, full p)

-- the second test, that the page's first key leads back to it
abbrev second : tie.After-keys_agree → tie.Else-v-p
second k = k.before.before.before

returns_3 : tie.Need-returns-then-not-keys_agree
returns_3 c =
    let k = c.before.before in
    let v = (second k).before.before in
    let r = read v.before in
    c.first_row-then-not-keys_agree.ensures
    ∙ rows_alone _ _ _ _ _ _ _ r.page_at-page.ensures (first_is r) (agreed v.before) v.own_entry-v.ensures (second k).if-v-p.false
    (failed k.keys_agree.ensures c.if-not-keys_agree.true-raw)

-- the page, from its count on, and its last record
abbrev counted : tie.After-count_of-to → tie.After-page_at-page
counted c = (read (second c.before.before).before.before.before).before

sub_read_one : tie.Need-overflow_sub-to
sub_read_one c = omega (arith, some (counted c), c.count_of-to.ensures.0)

read_one_requires_2 : tie.Need-read_one-last-requires
read_one_requires_2 c κs =
    (search rules, record_inside (full (counted c)) (omega (arith, some (counted c), c.count_of-to.ensures.0)))

run_behind_requires : tie.Need-run_behind-requires
run_behind_requires c κs =
    let p = (counted c.before).requires in (p.0, at_node _ _ _ _ p.0 p.1 refl)

returns_4 : tie.Need-returns
returns_4 c =
    let n = c.before.before in
    let k = n.before.before in
    let v = (second k).before.before in
    let r = read v.before in
    rows_whole _ _ _ _ _ _ _ r.page_at-page.ensures (first_is r) (agreed v.before) v.own_entry-v.ensures (second k).if-v-p.false
    (passed k.keys_agree.ensures n.if-not-keys_agree.false-raw) n.count_of-to.ensures.0
    (ap (λ (x : Item). x.key) c.read_one-last.ensures) c.run_behind.ensures.0

pub reached_rows_spec : {M : Type 1} → statement M
reached_rows_spec =
    tie.close
    (tie.spec page_at_requires read_one_requires (λ c κs. search rules) sub_low (λ c κs. search rules) (λ c κs. search rules)
    (λ c κs. search rules) returns own_entry_requires (λ c κs. search rules) returns_2 add_keys_agree keys_agree_requires
    (λ c κs. search rules) returns_3 (λ c κs. search rules) sub_read_one read_one_requires_2 run_behind_requires returns_4)
