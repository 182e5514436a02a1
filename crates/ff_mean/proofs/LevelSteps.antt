-- How a level is run, one task after another.
use Rattle.std.proofs.Common.{◌≡◌, ◌+◌, ◌<◌, Bool, not, List, [], ◌∷◌, ◌++◌, length, refl, sym, ap, ◌∙◌, append_assoc, append-nil, length-append, arith}
use Rattle.std.specs.List.{filter, flat_map}
use Rattle.std.proofs.lemmas.List.Elements.{filter-append}
use Rattle.ff_rec.specs.Lines.{Rec}
use Rattle.ff_node.specs.declared.class.Class.TheVariants.{Plain}
use Rattle.ff_node.specs.Behaviour.{Behaviour, KeepsKind, state_from}
use Rattle.ff_node.specs.Classes.{ClassLaw}
use Rattle.ff_node.specs.OnListsLaws.{plain-law, reached-next}
use Rattle.ff_node.specs.Sends.{Sent, add}
use Rattle.ff_node.proofs.SendsLaws.{add-add, add-nothing}
use Rattle.ff_net.specs.declared.net.Test.{Test}
use Rattle.ff_net.specs.Levels.{meets, again, leaves_with}
use Rattle.ff_net.specs.Sorts.{Sorts}
use Rattle.ff_net.specs.declared.tasks.Tasks.{Tasks}
use Rattle.ff_mean.specs.Rounds.{IsPlainState, RunsLevel}
use Rattle.ff_mean.proofs.NodeSteps.{add-taken}

module _ {S : Type 0} (b : Behaviour S) (keeps : KeepsKind b) (law : (o : S) → ClassLaw b o (b.class o)) where
  -- a Plain node that was opened
  pub IsPlainState-opened : (o s : S) → b.class o ≡ Plain → s ≡ b.opening o → IsPlainState b s
  IsPlainState-opened o s plain is = record {
    class = ap b.class is ∙ keeps.class_of_opening o ∙ plain;
    seen = [];
    is = is ∙ sym (keeps.opening_of_opening o) ∙ sym (ap b.opening is);
  }

  pub opening-next : (s t : S) (x : Rec) → t ≡ b.next s x → b.opening t ≡ b.opening s
  opening-next s t x is = ap b.opening is ∙ keeps.opening_of_next s x

  -- a record more
  pub IsPlainState-next : (s t : S) (x : Rec) → IsPlainState b s → t ≡ b.next s x → IsPlainState b t
  IsPlainState-next s t x plain is =
      let kind = opening-next s t x is in
      record {
        class = sym (keeps.class_of_opening t) ∙ ap b.class kind ∙ keeps.class_of_opening s ∙ plain.class;
        seen = plain.seen ++ x ∷ [];
        is = is ∙ ap (λ u. b.next u x) plain.is ∙ reached-next b s plain.seen x ∙ ap (λ u. state_from b u (plain.seen ++ x ∷ [])) (sym kind);
      }

  -- it does what it does in its opening state
  pub add-plain : (s : S) (x : Rec) (out after : Sent) → IsPlainState b s → after ≡ add out (b.sends s x) (b.rejects s x)
      → after ≡ add out (b.sends (b.opening s) x) (b.rejects (b.opening s) x)
  add-plain s x out after plain added =
      let does = plain-law b law s plain.class in
      added
      ∙ ap (λ (l : List Rec). add out l (b.rejects s x)) (ap (λ u. b.sends u x) plain.is ∙ does.sends plain.seen x)
      ∙ ap (add out (b.sends (b.opening s) x)) (ap (λ u. b.rejects u x) plain.is ∙ does.rejects plain.seen x)

-- what is left of a level with what was run of it is all
pub record RunsLevelOn (send reject : Rec → List Rec) (p : Test) (level rest : List Rec) (x y : Tasks) (before after : Sent) : Type 0 where
  pub next : y.next ++ again (flat_map send) p rest ≡ x.next ++ again (flat_map send) p level
  pub results : y.results ++ leaves_with (flat_map send) p rest ≡ x.results ++ leaves_with (flat_map send) p level
  pub room : y.room + length (again (flat_map send) p level) ≡ x.room + length (again (flat_map send) p rest)
  pub rejects : add after [] (flat_map reject rest) ≡ add before [] (flat_map reject level)
  pub empty : after.sends ≡ []

module _ (send reject : Rec → List Rec) (p : Test) (level : List Rec) where
  pub RunsLevelOn-refl : (x : Tasks) (out : Sent) → out.sends ≡ [] → RunsLevelOn send reject p level level x x out out
  RunsLevelOn-refl x out empty = record { next = refl; results = refl; room = refl; rejects = refl; empty = empty }

  -- what a test keeps of what is sent for a record and for those behind it
  kept-first : (test : Rec → Bool) (r : Rec) (rest more : List Rec) → rest ≡ r ∷ more → filter test (flat_map send rest) ≡ filter test (send r) ++ filter test (flat_map send more)
  kept-first test r rest more first = ap (λ l. filter test (flat_map send l)) first ∙ filter-append test (send r) (flat_map send more)

  module _ (x y z : Tasks) (before out mid after : Sent) (r : Rec) (rest more : List Rec)
      (so_far : RunsLevelOn send reject p level rest x y before out) (first : rest ≡ r ∷ more) (gathered : mid ≡ add out (send r) (reject r)) where
    sent : mid.sends ≡ send r
    sent = ap (λ (s : Sent). s.sends) gathered ∙ ap (λ l. l ++ send r) so_far.empty

    -- a task more
    pub RunsLevelOn-next : Sorts (meets p) mid.sends y z × (after ≡ record mid { sends = [] }) → RunsLevelOn send reject p level more x z before after
    RunsLevelOn-next sorted =
        let round = meets p in
        let leaves : Rec → Bool = λ r. not (meets p r) in
        let left : after ≡ add out [] (reject r) = sorted.1 ∙ ap (λ (s : Sent). record s { sends = [] }) gathered ∙ add-taken out (send r) (reject r) so_far.empty in
        record {
          next = ap (λ l. l ++ again (flat_map send) p more) (sorted.0.next ∙ ap (λ l. y.next ++ filter round l) sent)
              ∙ append_assoc y.next (filter round (send r)) (again (flat_map send) p more)
              ∙ ap (λ l. y.next ++ l) (sym (kept-first round r rest more first))
              ∙ so_far.next;
          results = ap (λ l. l ++ leaves_with (flat_map send) p more) (sorted.0.results ∙ ap (λ l. y.results ++ filter leaves l) sent)
              ∙ append_assoc y.results (filter leaves (send r)) (leaves_with (flat_map send) p more)
              ∙ ap (λ l. y.results ++ l) (sym (kept-first leaves r rest more first))
              ∙ so_far.results;
          room = omega (
            arith,
            sorted.0.room,
            so_far.room,
            ap (λ l. length (filter round l)) sent,
            ap length (kept-first round r rest more first),
            length-append (filter round (send r)) (again (flat_map send) p more),
          );
          rejects = ap (λ (s : Sent). add s [] (flat_map reject more)) left
              ∙ add-add out [] (reject r) [] (flat_map reject more)
              ∙ ap (λ l. add out [] (flat_map reject l)) (sym first)
              ∙ so_far.rejects;
          empty = ap (λ (s : Sent). s.sends) sorted.1;
        }

    -- one for which there is no room
    pub full-level : y.room < length (filter (meets p) mid.sends) → x.room < length (again (flat_map send) p level)
    full-level full = omega (
      arith,
      full,
      so_far.room,
      ap (λ l. length (filter (meets p) l)) sent,
      ap length (kept-first (meets p) r rest more first),
      length-append (filter (meets p) (send r)) (again (flat_map send) p more),
    )

  -- the level was run
  pub RunsLevel-end : (x y : Tasks) (before after : Sent) (rest : List Rec) → RunsLevelOn send reject p level rest x y before after → rest ≡ []
      → RunsLevel send reject p level x y before after
  RunsLevel-end x y before after rest so_far none = record {
    next = sym (append-nil y.next) ∙ ap (λ l. y.next ++ again (flat_map send) p l) (sym none) ∙ so_far.next;
    results = sym (append-nil y.results) ∙ ap (λ l. y.results ++ leaves_with (flat_map send) p l) (sym none) ∙ so_far.results;
    room = omega (arith, so_far.room, ap (λ l. length (again (flat_map send) p l)) none);
    rejects = sym (add-nothing after) ∙ ap (λ l. add after [] (flat_map reject l)) (sym none) ∙ so_far.rejects;
  }
