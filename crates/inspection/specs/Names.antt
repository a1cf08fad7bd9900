-- The names of tests, and when a test is shared.
use Rattle.std.specs.Prelude.{ℕ, Bool, if◌then◌else◌, ◌&&◌, ◌||◌, ◌==◌, nat_lt}
use Rattle.std.specs.Cmp.{IsEquivalence}
use Rattle.std.proofs.lemmas.Cmp.{nat_eq_equiv, on_equiv, and_equiv}
use Rattle.sheet.specs.declared.rows.Face.{Face}
use Rattle.inspection.specs.declared.names.VfName.{VfName}
use Rattle.inspection.specs.declared.names.EeName.{EeName}
use Rattle.inspection.specs.declared.names.Edge.{Edge}

abbrev pub vf_same : VfName → VfName → Bool
vf_same x y = x.point == y.point && x.face == y.face

abbrev pub ee_same : EeName → EeName → Bool
ee_same x y = x.u == y.u && x.v == y.v && x.k == y.k && x.l == y.l

-- both are equivalences
pub vf_same_equiv : IsEquivalence vf_same
vf_same_equiv = and_equiv (on_equiv (λ e. e.point) nat_eq_equiv) (on_equiv (λ e. e.face) nat_eq_equiv)

pub ee_same_equiv : IsEquivalence ee_same
ee_same_equiv =
    and_equiv
    (and_equiv
    (and_equiv (on_equiv (λ e. e.u) nat_eq_equiv) (on_equiv (λ e. e.v) nat_eq_equiv))
    (on_equiv (λ e. e.k) nat_eq_equiv))
    (on_equiv (λ e. e.l) nat_eq_equiv)

-- an edge has its lower number first
abbrev pub edge_of : ℕ → ℕ → Edge
edge_of a b =
    if nat_lt b a then record { first = b; second = a } else record { first = a; second = b }

abbrev pub name_in_order : Edge → Edge → EeName
name_in_order e f = record { u = e.first; v = e.second; k = f.first; l = f.second }

-- the edge with the lower first number is u, v
abbrev pub ee_name_of : Edge → Edge → EeName
ee_name_of e f = if nat_lt f.first e.first then name_in_order f e else name_in_order e f

-- a test is shared when its point is a corner of its face or its edges have a common point
abbrev pub is_corner : ℕ → Face → Bool
is_corner p f = p == f.a || p == f.b || p == f.c

abbrev pub ee_shared : EeName → Bool
ee_shared n = n.u == n.k || n.u == n.l || n.v == n.k || n.v == n.l
