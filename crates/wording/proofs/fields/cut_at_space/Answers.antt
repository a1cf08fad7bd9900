use Rattle.std.proofs.Common.{ℕ, ◌+◌, ◌==◌, length, take, drop, sym, ap, ◌∙◌, arith, rules, take_all}
use Rattle.std.proofs.lemmas.List.Sums.{position_or_len_is}
use Rattle.std.proofs.lemmas.List.{take_rest, drop_all}
use Rattle.wording.proofs.fields.cut_at_space.Goals as goal

pub returns-in-Some : goal.returns-in-Some
returns-in-Some c =
    let text = c.args.bytes.now in
    let found = position_or_len_is (λ (b : ℕ). b == 32) text c.in-Some.i 0 (search rules) (search rules) (search rules) in
    record { front = ap (λ n. take n text) (sym found); back = take_rest text _ ∙ ap (λ n. drop (n + 1) text) (sym found) }

pub returns-in-None : goal.returns-in-None
returns-in-None c =
    let text = c.args.bytes.now in
    let none = position_or_len_is (λ (b : ℕ). b == 32) text (length text) 0 (omega arith) (search rules) (search rules) in
    record {
      front = sym (ap (λ n. take n text) none ∙ take_all (length text) text (omega arith));
      back = sym (ap (λ n. drop (n + 1) text) none ∙ drop_all (length text + 1) text (omega arith));
    }
