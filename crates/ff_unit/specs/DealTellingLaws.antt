-- Eos or Abort is told on every out.
use Rattle.std.specs.Prelude.{◌≡◌, ◌+◌, ◌<◌, ◌≤◌, ℕ, zero, suc, List, [], ◌∷◌, ◌++◌, None}
use Rattle.std.proofs.Common.{refl, sym, ap, ◌∙◌, subst, arith, append-nil, append_assoc}
use Rattle.ff_rec.specs.Streams.{IsOpenMsg}
use Rattle.ff_node.specs.Runs.{Message}
use Rattle.ff_unit.specs.Deals.{on_outs, MayBeRefused}
use Rattle.ff_unit.specs.DealPairLaws.{Pair, on, on-append, on_outs-append, on-on_outs, on-on_outs-behind}
use Rattle.ff_unit.specs.DealTiedLaws.{IsTelling}

-- nothing was told yet
pub IsTelling-start : (outs : ℕ) (m : Message) (front : List Pair) → IsTelling outs m front front (on_outs 0 outs m)
IsTelling-start outs m front = record { told = 0; left = outs; all = omega arith; were = sym (append-nil front); are = refl }

-- one out more
pub IsTelling-next : (outs : ℕ) (m : Message) (front ps held : List Pair) (k : ℕ) (n : Message) (held' : List Pair) → held ≡ (k, n) ∷ held' → IsTelling outs m front ps held
    → (k < outs) × IsTelling outs m front (ps ++ (k, n) ∷ []) held'
IsTelling-next outs m front ps held k n held' first t = by t.left t.all (sym first ∙ t.are)
  where
    by : (left : ℕ) → t.told + left ≡ outs → (k, n) ∷ held' ≡ on_outs t.told left m → (k < outs) × IsTelling outs m front (ps ++ (k, n) ∷ []) held'
    by zero all are = let h : (k, n) ∷ held' ≡ [] = are in cc
    by (suc left) all are =
        let h : (k, n) ∷ held' ≡ (t.told, m) ∷ on_outs (suc t.told) left m = are in
        let pair : ◌≡◌ {A = Pair} (k, n) (t.told, m) = cc in
        let rest : held' ≡ on_outs (suc t.told) left m = cc in
        let out : k ≡ t.told = ap (λ (p : Pair). p.0) pair in
        let one : t.told + 1 ≡ suc t.told = omega arith in
        let from : 0 + t.told ≡ t.told = omega arith in (
          omega (arith, all, out),
          record {
            told = suc t.told;
            left = left;
            all = omega (arith, all);
            were = ap (λ (p : Pair). ps ++ p ∷ []) pair
                ∙ ap (λ l. l ++ (t.told, m) ∷ []) t.were
                ∙ append_assoc front (on_outs 0 t.told m) ((t.told, m) ∷ [])
                ∙ ap (λ l. front ++ l) (ap (λ i. on_outs 0 t.told m ++ on_outs i 1 m) (sym from) ∙ sym (on_outs-append 0 t.told 1 m) ∙ ap (λ i. on_outs 0 i m) one);
            are = rest;
          },
        )

-- what is told isn't refused
pub IsTelling-refuses : (outs : ℕ) (m : Message) (front ps held : List Pair) → (IsOpenMsg m → ⊥) → IsTelling outs m front ps held → MayBeRefused None held → ⊥
IsTelling-refuses outs m front ps held last t refused = by t.left (subst (MayBeRefused None) t.are refused)
  where
    by : (left : ℕ) → MayBeRefused None (on_outs t.told left m) → ⊥
    by zero h = h
    by (suc left) h = last h

-- what was put and is held, on one out
pub on-telling : (outs : ℕ) (m : Message) (front ps held : List Pair) (j : ℕ) → j < outs → IsTelling outs m front ps held → on j ps ++ on j held ≡ on j front ++ m ∷ []
on-telling outs m front ps held j below t =
    let from : 0 + t.told ≡ t.told = omega arith in
    let here : 0 ≤ j = omega arith in
    let within : j < 0 + outs = omega (arith, below) in
    sym (on-append j ps held)
    ∙ ap (on j) (ap (λ l. l ++ held) t.were ∙ ap (λ l. (front ++ on_outs 0 t.told m) ++ l) t.are ∙ append_assoc front (on_outs 0 t.told m) (on_outs t.told t.left m)
    ∙ ap (λ l. front ++ l) (ap (λ i. on_outs 0 t.told m ++ on_outs i t.left m) (sym from) ∙ sym (on_outs-append 0 t.told t.left m) ∙ ap (λ i. on_outs 0 i m) t.all))
    ∙ on-append j front (on_outs 0 outs m)
    ∙ ap (λ l. on j front ++ l) (on-on_outs j 0 outs m here within)

-- an out for which it is still held was told nothing
pub on-untold : (outs : ℕ) (m : Message) (front ps held : List Pair) (j : ℕ) (t : IsTelling outs m front ps held) → t.told ≤ j → on j ps ≡ on j front
on-untold outs m front ps held j t from =
    let behind : 0 + t.told ≤ j = omega (arith, from) in
    ap (on j) t.were ∙ on-append j front (on_outs 0 t.told m) ∙ ap (λ l. on j front ++ l) (on-on_outs-behind j 0 t.told m behind) ∙ append-nil (on j front)
