-- What a node does with lists, from the law of its class.
use Rattle.std.specs.Prelude.{◌≡◌, ℕ, Bool, if◌then◌else◌, List, [], ◌∷◌, ◌++◌, refl}
use Rattle.std.specs.List.{flat_map}
use Rattle.std.proofs.Common.{◌∙◌, sym, ap, ap₂, subst, append-nil}
use Rattle.ff_rec.specs.Lines.{Rec}
use Rattle.ff_rec.specs.Fields.{having, lacking, contents}
use Rattle.ff_rec.specs.Weights.{weigh, Same}
use Rattle.ff_rec.proofs.WeightLaws.{Same-≡, Same-flat_map}
use Rattle.ff_rec.proofs.Splits.{IsMadeByContents, Same-split, contents-lacking}
use Rattle.ff_node.specs.declared.class.Class.{Class}
use Rattle.ff_node.specs.declared.class.Class.TheVariants.{Plain, Ordered, Fold, Keyed}
use Rattle.ff_node.specs.Behaviour.{Behaviour, node, node_rejected, sent_from, rejected_from, state_from}
use Rattle.ff_node.specs.Classes.{reached, IsPlainNode, IsFoldNode, IsKeyedNode, ClassLaw}
use Rattle.ff_node.specs.OnLists.{GoesByRecords, GoesByCounts, GoesByKeys, PlainGoesByRecords, UnorderedGoesByCounts, KeyedGoesByKeys}

-- the state after two lists in a row
pub state_from-append : {S : Type 0} (b : Behaviour S) (s : S) (xs ys : List Rec) → state_from b s (xs ++ ys) ≡ state_from b (state_from b s xs) ys
state_from-append b s [] ys = refl
state_from-append b s (x ∷ xs) ys = state_from-append b (b.next s x) xs ys

module _ {S : Type 0} (b : Behaviour S) (o : S) where
  -- the state after one more record
  pub reached-next : (ys : List Rec) (x : Rec) → b.next (reached b o ys) x ≡ reached b o (ys ++ x ∷ [])
  reached-next ys x = sym (state_from-append b (b.opening o) ys (x ∷ []))

  -- a node that is always as in its opening state sends for a list what it sends for each record
  pub sent_from-plain : IsPlainNode b o → (ys xs : List Rec) → sent_from b (reached b o ys) xs ≡ flat_map (b.sends (b.opening o)) xs
  sent_from-plain h ys [] = h.last ys
  sent_from-plain h ys (x ∷ xs) =
      ap (λ (e : Bool). b.sends (reached b o ys) x ++ (if e then b.last (b.next (reached b o ys) x) else sent_from b (b.next (reached b o ys) x) xs)) (h.ends ys x)
      ∙ ap₂ (λ (front : List Rec) (s : S). front ++ sent_from b s xs) (h.sends ys x) (reached-next ys x)
      ∙ ap (λ (back : List Rec). b.sends (b.opening o) x ++ back) (sent_from-plain h (ys ++ x ∷ []) xs)

  -- the same of its rejects
  pub rejected_from-plain : IsPlainNode b o → (ys xs : List Rec) → rejected_from b (reached b o ys) xs ≡ flat_map (b.rejects (b.opening o)) xs
  rejected_from-plain h ys [] = h.last_rejects ys
  rejected_from-plain h ys (x ∷ xs) =
      ap (λ (e : Bool). b.rejects (reached b o ys) x ++ (if e then b.last_rejects (b.next (reached b o ys) x) else rejected_from b (b.next (reached b o ys) x) xs)) (h.ends ys x)
      ∙ ap₂ (λ (front : List Rec) (s : S). front ++ rejected_from b s xs) (h.rejects ys x) (reached-next ys x)
      ∙ ap (λ (back : List Rec). b.rejects (b.opening o) x ++ back) (rejected_from-plain h (ys ++ x ∷ []) xs)

  pub GoesByRecords-plain : IsPlainNode b o → GoesByRecords b o
  GoesByRecords-plain h xs = (sent_from-plain h [] xs, rejected_from-plain h [] xs)

  pub GoesByCounts-plain : IsPlainNode b o → GoesByCounts b o
  GoesByCounts-plain h xs ys s =
      let sends : Same (node b o xs) (node b o ys) = record {
        by = λ w. ap (weigh w) (sent_from-plain h [] xs) ∙ (Same-flat_map (b.sends (b.opening o)) s).by w ∙ sym (ap (weigh w) (sent_from-plain h [] ys));
      } in
      let rejects : Same (node_rejected b o xs) (node_rejected b o ys) = record {
        by = λ w. ap (weigh w) (rejected_from-plain h [] xs) ∙ (Same-flat_map (b.rejects (b.opening o)) s).by w ∙ sym (ap (weigh w) (rejected_from-plain h [] ys));
      } in
      (sends, rejects)

  pub GoesByCounts-fold : IsFoldNode b o → GoesByCounts b o
  GoesByCounts-fold h xs ys s = (Same-≡ (node b o xs) (node b o ys) (h.any_order xs ys s), h.rejected_any_order xs ys s)

  pub GoesByKeys-keyed : (f : ℕ) → IsKeyedNode b f o → GoesByKeys b f o
  GoesByKeys-keyed f h =
      let nothing : (xs : List Rec) → contents f xs ≡ [] → node b o xs ≡ [] =
      λ xs none. h.parts xs ∙ ap (flat_map (λ k. node b o (having f k xs))) none in
      let sends : IsMadeByContents (node b o) f = record {
        parts = λ xs. Same-≡ (node b o xs) (flat_map (λ k. node b o (having f k xs)) (contents f xs) ++ node b o (lacking f xs)) (
            h.parts xs
            ∙ sym (append-nil (flat_map (λ k. node b o (having f k xs)) (contents f xs)))
            ∙ ap (λ ys. flat_map (λ k. node b o (having f k xs)) (contents f xs) ++ ys) (sym (nothing (lacking f xs) (contents-lacking f xs)))
            );
        nothing = nothing [] refl;
      } in
      let rejects : IsMadeByContents (node_rejected b o) f = record { parts = h.rejected_parts; nothing = h.rejected_nothing } in
      record {
        sends = Same-split (node b o) f sends;
        rejects = Same-split (node_rejected b o) f rejects;
        sends_nothing = nothing [] refl;
        rejects_nothing = h.rejected_nothing;
      }

-- the three forms of all nodes that keep the law of their class
module _ {S : Type 0} (b : Behaviour S) (law : (o : S) → ClassLaw b o (b.class o)) where
  pub plain-law : (o : S) → b.class o ≡ Plain → IsPlainNode b o
  plain-law o is = subst (ClassLaw b o) is (law o)

  pub keyed-law : (o : S) (f : ℕ) → b.class o ≡ Keyed f → IsKeyedNode b f o
  keyed-law o f is = subst (ClassLaw b o) is (law o)

  pub plain_goes_by_records : PlainGoesByRecords b
  plain_goes_by_records o is = GoesByRecords-plain b o (plain-law o is)

  pub unordered_goes_by_counts : UnorderedGoesByCounts b
  unordered_goes_by_counts o other = by (b.class o) refl (law o)
    where
      by : (c : Class) → b.class o ≡ c → ClassLaw b o c → GoesByCounts b o
      by Plain is h = GoesByCounts-plain b o h
      by Ordered is h = absurd (other is)
      by Fold is h = GoesByCounts-fold b o h
      by (Keyed f) is h = GoesByCounts-fold b o h.fold

  pub keyed_goes_by_keys : KeyedGoesByKeys b
  keyed_goes_by_keys o f is = GoesByKeys-keyed b o f (keyed-law o f is)
