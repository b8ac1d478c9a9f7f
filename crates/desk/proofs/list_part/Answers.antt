-- Each way out is one case of the part.
use Rattle.std.proofs.Common.{◌≡◌, ◌++◌, ◌≤◌, ◌<◌, ◌^◌, ◌∙◌, ℕ, List, length, drop, replicate, arith, sym, ap, refl, rules, length-drop}
use Rattle.std.proofs.Math.ListN.{length-take}
use Rattle.lists.proofs.Parts.{length_over}
use Rattle.lines.specs.declared.Reply.TheVariants.{Refused}
use Rattle.lines.specs.Request.{kind_number}
use Rattle.lines.specs.Reply.{reply_line}
use Rattle.store.specs.declared.Format.TheVariants.{Plots}
use Rattle.scan.specs.Range.{RangeReply, range_of}
use Rattle.desk.specs.Replies.{listed_lines}
use Rattle.desk.specs.Listing.{part_of, items_of, last_line}
use Rattle.desk.proofs.Told.{number_some}
use Rattle.desk.proofs.ListingLaws.{piece_facts}
use Rattle.desk.proofs.PartLaws.{refused_lines, refused_after, more_lines, more_after, last_lines, last_after}
use Rattle.desk.proofs.LineLaws.{put_line, put_behind}
use Rattle.desk.proofs.list_part.Goals as goal

-- the call is the part's
told : (s : List ℕ) (low high : ℕ) {p : RangeReply} {ws : List ℕ}
    → (p ≡ (range_of Plots s low high (replicate 256 0)).reply) × (ws ≡ (range_of Plots s low high (replicate 256 0)).words)
    → (p ≡ (part_of s low high).reply) × (ws ≡ (part_of s low high).words)
unfolding part_of
told s low high e = e

pub overflow_cast-p : goal.overflow_cast-p
overflow_cast-p c =
    let a = c.args in
    let few = (piece_facts a.store.now _ _ (told a.store.now a.l.at a.l.high c.in-Ok.ensures).0).few in
    record { fits = omega (arith, few) }

pub write_records-put-requires : goal.write_records-put-requires
write_records-put-requires c =
    let a = c.args in
    let t = told a.store.now a.l.at a.l.high c.in-Ok.ensures in
    let n : length c.read_part.new.part ≡ 256 = search rules in
    let few = (piece_facts a.store.now _ _ t.0).few in
    (omega (arith, few, n), few, omega (arith, few, c.requires))

pub returns-then-p-ne0 : goal.returns-then-p-ne0
returns-then-p-ne0 c =
    let a = c.args in
    let t = told a.store.now a.l.at a.l.high c.in-Ok.ensures in
    let narrow : a.l.high < 2 ^ 32 = search rules in
    let w = c.write_records-put in
    let x = more_lines a.store.now a.l _ _ t.0 t.1 narrow refl c.if-p-ne0.true in (
      sym (more_after a.store.now a.l _ _ t.0 t.1 narrow c.if-p-ne0.true),
      w.ensures.0 ∙ sym (ap length x),
      w.ensures.2 ∙ ap (λ (bs : List ℕ). bs ++ drop w.result a.out.now) (sym x),
    )

-- the lines of the records leave room for the last
pub put_last-end-requires : goal.put_last-end-requires
put_last-end-requires c =
    let a = c.args in
    let t = told a.store.now a.l.at a.l.high c.in-Ok.ensures in
    let w = c.write_records-put in
    let few = (piece_facts a.store.now _ _ t.0).few in
    let most : w.result ≤ 2880 = omega (arith, few, w.ensures.1) in
    let lines : List ℕ = listed_lines a.l.dump (items_of c.in-Ok.p.count c.read_part.new.part) in
    let long = length_over _ lines _ a.out.now (sym w.ensures.0) (omega (arith, most, c.requires)) w.ensures.2 in
    simp (length-take, length-drop) (omega (arith, most, long, c.requires))

pub returns-in-Err : goal.returns-in-Err
returns-in-Err c =
    let a = c.args in
    let t = told a.store.now a.l.at a.l.high c.in-Err.ensures in
    let narrow : a.l.high < 2 ^ 32 = search rules in
    let n = number_some c.in-Err.e in
    let x =
    refused_lines a.store.now a.l _ _ t.0 t.1 narrow _ (c.number.ensures ∙ ap kind_number c.kind_listed.ensures) n
    ∙ ap (λ (i : ℕ). reply_line (Refused c.number.result i)) (sym c.number-in-Err.ensures) in
    let y = put_line _ _ _ _ _ x (omega (arith, c.requires)) c.write-put.ensures.0 c.write-put.ensures.1 in
    (sym (refused_after a.store.now a.l _ _ t.0 t.1 narrow n), y.0, y.1)

pub returns-else-p-ne0 : goal.returns-else-p-ne0
returns-else-p-ne0 c =
    let a = c.args in
    let t = told a.store.now a.l.at a.l.high c.in-Ok.ensures in
    let narrow : a.l.high < 2 ^ 32 = search rules in
    let w = c.write_records-put.ensures in
    let e = c.put_last-end.ensures in
    let lines : List ℕ = listed_lines a.l.dump (items_of c.in-Ok.p.count c.read_part.new.part) in
    let x = last_lines a.store.now a.l _ _ t.0 t.1 narrow refl c.if-p-ne0.false in
    let y = put_behind _ lines (last_line a.l.dump a.l.count) _ _ _ _ _ x w.0 w.2 e.0 e.2 in
    (sym (last_after a.store.now a.l _ _ t.0 t.1 narrow c.if-p-ne0.false), y.0, y.1)
