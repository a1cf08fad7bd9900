-- A tree of two boxes or more: its root, and the trees of the halves.
use Rattle.std.proofs.Common.{◌≡◌, ℕ, suc, ◌+◌, ◌-◌, ◌*◌, ◌/◌, ◌<◌, ◌≤◌, List, [], ◌∷◌, ◌++◌, length, get_or, set, take, drop, refl, sym, ap, ◌∙◌, subst, subst₂, arith, length-append, length-drop, length-take-le, take-append-drop, take_at, drop_at, append-nil}
use Rattle.std.proofs.lemmas.List.{drop_all, get_or_append_left, get_or-append_right}
use Rattle.near_faces.specs.Boxes.{joined, around}
use Rattle.near_faces.proofs.Meeting.{around_append}
use borrow.Rule.Slice.PartMut.{put_mid}
use Rattle.near_faces.specs.declared.boxes.SweptBox.{SweptBox}
use Rattle.near_faces.specs.declared.nodes.Node.{Node}
use Rattle.near_faces.specs.Trees.{node, Halves, IsTree}
use Rattle.near_faces.specs.Trees.IsTree.{leaf, fork}

pub some_boxes : {f : ℕ} {bs : List SweptBox} {ns : List Node} → IsTree f bs ns → 0 < length bs
some_boxes leaf = omega arith
some_boxes (fork {first} {lower} {upper} h l u) = omega (arith, length-append lower upper, h.some)

pub places : {f : ℕ} {bs : List SweptBox} {ns : List Node} → IsTree f bs ns → length ns + 1 ≡ 2 * length bs
places leaf = refl
places (fork {first} {lower} {upper} {ls} {us} h l u) = omega (arith, length-append lower upper, length-append ls us, places l, places u)

pub root : {f : ℕ} {bs : List SweptBox} {ns : List Node} → IsTree f bs ns → (d : Node) → get_or ns 0 d ≡ node f bs
root leaf d = refl
root (fork h l u) d = refl

-- the trees of the halves, the first of which has h boxes
pub record HalfTrees (f h : ℕ) (bs : List SweptBox) (ns : List Node) : Type 0 where
  pub lower : IsTree f (take h bs) (take (2 * h - 1) (drop 1 ns))
  pub upper : IsTree (f + h) (drop h bs) (drop (2 * h) ns)

pub half_trees : {f : ℕ} {bs : List SweptBox} {ns : List Node} → (h : ℕ) → IsTree f bs ns → 2 ≤ length bs → h ≡ (length bs + 1) / 2 → HalfTrees f h bs ns
half_trees h leaf two e = absurd (omega arith)
half_trees h (fork {first} {lower} {upper} {ls} {us} halves l u) two e =
    let fewer = halves.fewer in
    let one = halves.one_at_most in
    let n : h ≡ length lower = omega (arith, length-append lower upper) in
    let m : length ls ≡ 2 * h - 1 = omega (arith, places l, some_boxes l) in
    let k : suc (length ls) ≡ 2 * h = omega (arith, places l, some_boxes l) in
    record {
      lower = subst₂ (IsTree first) (sym (take_at lower upper h (sym n))) (sym (take_at ls us (2 * h - 1) m)) l;
      upper = subst (λ (j : ℕ). IsTree (first + j) (drop h (lower ++ upper)) (drop (2 * h) (node first (lower ++ upper) ∷ (ls ++ us)))) (sym n)
          (subst₂ (IsTree (first + length lower)) (sym (drop_at lower upper h (sym n))) (sym (drop_at (node first (lower ++ upper) ∷ ls) us (2 * h) k)) u);
    }

-- a tree put together from a root and the trees of the halves
pub whole_tree : (f h : ℕ) (bs : List SweptBox) (ls us : List Node) (r : Node) → 2 ≤ length bs → h ≡ (length bs + 1) / 2
    → IsTree f (take h bs) ls → IsTree (f + h) (drop h bs) us → r ≡ node f bs → IsTree f bs (r ∷ (ls ++ us))
whole_tree f h bs ls us r two e l u root_is =
    let n : length (take h bs) ≡ h = length-take-le h bs (omega arith) in
    let halves : Halves (take h bs) (drop h bs) = record {
      some = omega (arith, length-drop h bs);
      fewer = omega (arith, length-drop h bs);
      one_at_most = omega (arith, length-drop h bs);
    } in
    let upper : IsTree (f + length (take h bs)) (drop h bs) us = subst (λ (j : ℕ). IsTree (f + j) (drop h bs) us) (sym n) u in
    subst (λ (x : Node). IsTree f bs (x ∷ (ls ++ us))) (sym root_is)
    (subst (λ (xs : List SweptBox). IsTree f xs (node f xs ∷ (ls ++ us))) (take-append-drop h bs) (fork halves l upper))

-- a tree of one box
pub one_tree : (f : ℕ) (run : List SweptBox) (ns : List Node) (d : SweptBox) → length run ≡ 1 → length ns ≡ 1 → IsTree f run (set ns 0 (record { first = f; count = 1; bounds = get_or run 0 d }))
one_tree f [] ns d e g = absurd (omega arith)
one_tree f (b ∷ c ∷ run) ns d e g = absurd (omega arith)
one_tree f (b ∷ []) [] d e g = absurd (omega arith)
one_tree f (b ∷ []) (m ∷ []) d e g = leaf
one_tree f (b ∷ []) (m ∷ n ∷ ns) d e g = absurd (omega arith)

-- the nodes once the trees of both halves are written behind the first place
two_parts : (m p k : ℕ) (x : Node) (ns ls us : List Node) → length ls ≡ m → p ≡ suc m → length ns ≡ m + length us → k ≡ length us → put_mid p k (put_mid 1 m (x ∷ ns) ls) us ≡ x ∷ (ls ++ us)
two_parts m p k x ns ls us e o g j =
    let rest = drop m ns in
    let short : length rest ≡ length us = omega (arith, length-drop m ns) in
    let none : drop k (drop m (ls ++ rest)) ≡ [] = ap (drop k) (drop_at ls rest m e) ∙ drop_all k rest (omega arith) in
    ap (λ (i : ℕ). put_mid i k (x ∷ (ls ++ rest)) us) o
    ∙ (λ i. (x ∷ take_at ls rest m e i) ++ (us ++ none i))
    ∙ ap (λ l. x ∷ (ls ++ l)) (append-nil us)

-- the tree once its root is written before them
pub built : (f h p q k : ℕ) (run : List SweptBox) (nodes ls us : List Node) (bounds : SweptBox) (d e : Node) → 2 ≤ length run → h ≡ (length run + 1) / 2
    → length nodes + 1 ≡ 2 * length run → p ≡ 2 * h → q ≡ p - 1 → k ≡ length (put_mid 1 q nodes ls) - p
    → IsTree f (take h run) ls → IsTree (f + h) (drop h run) us
    → bounds ≡ joined (get_or (put_mid p k (put_mid 1 q nodes ls) us) 1 d).bounds (get_or (put_mid p k (put_mid 1 q nodes ls) us) p e).bounds
    → IsTree f run (set (put_mid p k (put_mid 1 q nodes ls) us) 0 (record { first = f; count = length run; bounds = bounds }))
built f h p q k run [] ls us bounds d e two half all p_is q_is k_is l u b = absurd (omega arith)
built f h p q k run (x ∷ ns) ls us bounds d e two half all p_is q_is k_is l u b =
    let r : Node = record { first = f; count = length run; bounds = bounds } in
    let short : length (take h run) ≡ h = length-take-le h run (omega arith) in
    let low : length ls + 1 ≡ 2 * h = places l ∙ ap (λ (n : ℕ). 2 * n) short in
    let high : length us + 1 ≡ 2 * (length run - h) = places u ∙ ap (λ (n : ℕ). 2 * n) (length-drop h run) in
    let q_ls : length ls ≡ q = omega arith in
    let p_q : p ≡ suc q = omega arith in
    let rows : length ns ≡ q + length us = omega arith in
    let k_us : k ≡ length us = omega (arith, k_is, length-append ls (drop q ns), length-drop q ns) in
    let w = two_parts q p k x ns ls us q_ls p_q rows k_us in
    let at_low : get_or (x ∷ (ls ++ us)) 1 d ≡ node f (take h run) = get_or_append_left ls us d 0 (omega arith) ∙ root l d in
    let there : p - length (x ∷ ls) ≡ 0 = omega arith in
    let at_high : get_or (x ∷ (ls ++ us)) p e ≡ node (f + h) (drop h run) =
    get_or-append_right (x ∷ ls) us (length (x ∷ ls)) p e refl (omega arith) ∙ ap (λ (n : ℕ). get_or us n e) there ∙ root u e in
    let is_around : bounds ≡ around run =
    b ∙ (λ i. joined (get_or (w i) 1 d).bounds (get_or (w i) p e).bounds)
    ∙ (λ i. joined (at_low i).bounds (at_high i).bounds)
    ∙ sym (around_append (take h run) (drop h run) (some_boxes l) (some_boxes u))
    ∙ ap around (take-append-drop h run) in
    subst (λ (ms : List Node). IsTree f run (set ms 0 r)) (sym w)
    (whole_tree f h run ls us r two half l u (ap (λ (c : SweptBox). record { first = f; count = length run; bounds = c }) is_around))
