-- Each way out, by the tests made before it.
use borrow.Author.Rules.{rules}
use Rattle.raw.proofs.TwinLaws.{node_alone, node_level, node_depth, node_back, node_forward, node_entries}
use Rattle.raw.proofs.twins.same_node.Statement.{statement}
use Rattle.raw.proofs.twins.same_node.Tie as tie

returns : tie.Need-returns-then-b-eq0
returns c = let w = c.before in node_alone _ _ _ _ w.to_index.ensures.0 w.word-b.ensures c.if-b-eq0.true

returns_2 : tie.Need-returns-then-node_word
returns_2 c =
    let m = c.before in
    let l = m.before in
    let z = l.before in
    let w = z.before in
    node_level _ _ _ _ w.to_index.ensures.0 w.word-b.ensures z.if-b-eq0.false l.node_word.ensures
    m.node_word-2.ensures c.if-node_word.true

returns_3 : tie.Need-returns-then-node_word-2
returns_3 c =
    let e = c.before in
    let d = e.before in
    let n = d.before in
    let m = n.before in
    let l = m.before in
    let z = l.before in
    let w = z.before in
    node_depth _ _ _ _ w.to_index.ensures.0 w.word-b.ensures z.if-b-eq0.false l.node_word.ensures
    m.node_word-2.ensures n.if-node_word.false d.node_word-3.ensures e.node_word-4.ensures c.if-node_word-2.true

returns_4 : tie.Need-returns-then-not-same_link
returns_4 c =
    let r = c.before in
    let f = r.before in
    let e = f.before in
    let d = e.before in
    let n = d.before in
    let m = n.before in
    let l = m.before in
    let z = l.before in
    let w = z.before in
    node_back _ _ _ _ w.to_index.ensures.0 w.word-b.ensures z.if-b-eq0.false l.node_word.ensures
    m.node_word-2.ensures n.if-node_word.false d.node_word-3.ensures e.node_word-4.ensures f.if-node_word-2.false
    r.same_link.ensures c.if-not-same_link.true-raw

returns_5 : tie.Need-returns-then-not-same_link-2
returns_5 c =
    let s = c.before in
    let g = s.before in
    let r = g.before in
    let f = r.before in
    let e = f.before in
    let d = e.before in
    let n = d.before in
    let m = n.before in
    let l = m.before in
    let z = l.before in
    let w = z.before in
    node_forward _ _ _ _ w.to_index.ensures.0 w.word-b.ensures z.if-b-eq0.false l.node_word.ensures
    m.node_word-2.ensures n.if-node_word.false d.node_word-3.ensures e.node_word-4.ensures f.if-node_word-2.false
    r.same_link.ensures g.if-not-same_link.false-raw s.same_link-2.ensures c.if-not-same_link-2.true-raw

returns_6 : tie.Need-returns
returns_6 c =
    let h = c.before in
    let s = h.before in
    let g = s.before in
    let r = g.before in
    let f = r.before in
    let e = f.before in
    let d = e.before in
    let n = d.before in
    let m = n.before in
    let l = m.before in
    let z = l.before in
    let w = z.before in
    node_entries _ _ _ _ w.to_index.ensures.0 w.word-b.ensures z.if-b-eq0.false l.node_word.ensures
    m.node_word-2.ensures n.if-node_word.false d.node_word-3.ensures e.node_word-4.ensures f.if-node_word-2.false
    r.same_link.ensures g.if-not-same_link.false-raw s.same_link-2.ensures h.if-not-same_link-2.false-raw c.same_entries.ensures

pub same_node_spec : {M : Type 1} → statement M
same_node_spec =
    tie.close
    (tie.spec (λ c κs. search rules) (λ c κs. search rules) returns (λ c κs. search rules) (λ c κs. search rules) returns_2
    (λ c κs. search rules) (λ c κs. search rules) returns_3 (λ c κs. search rules) returns_4 (λ c κs. search rules) returns_5
    (λ c κs. search rules) returns_6)
