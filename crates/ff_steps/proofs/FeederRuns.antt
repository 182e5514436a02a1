-- What a run of the feeder has put.
use Rattle.std.proofs.Common.{◌≡◌, ℕ, Bool, true, false, List, [], ◌∷◌, ◌++◌, refl, sym, ap, ap₂, ◌∙◌, subst, append_assoc}
use Rattle.std.proofs.lemmas.Bool.{both_ways}
use Rattle.std.proofs.lemmas.List.{append-nil}
use Rattle.ff_rec.specs.Lines.{Rec}
use Rattle.ff_rec.specs.Streams.{IsOpen, at, carried, closed, unaborted, GoesOn}
use Rattle.ff_rec.specs.declared.msg.Msg.TheVariants.{Item, Mark, Pick, Eos, Abort}
use Rattle.ff_node.specs.Runs.{Message, Act, Took, Gave, Refused, Idle, Told, Handed, gave, gave_on, Leads, HasRun}
use Rattle.ff_steps.specs.Parties.{Feeder, FeederStep, opening_feeder}
use Rattle.ff_unit.specs.MessageLaws.{IsOpen-carried, unaborted-append}
use Rattle.ff_steps.proofs.MessageLists.{unaborted-carried, carried-append}

-- what an ended feeder has put behind its records
abbrev pub feeder_tail : Bool → Bool → List Message
feeder_tail false refused = []
feeder_tail true false = Eos ∷ []
feeder_tail true true = Abort ∷ []

-- a feeder of this input has put the records before those that are left, and its last message once it has ended
pub record HasFed (input : List Rec) (f : Feeder) (puts : List (List Message)) : Type 0 where
  pub sent : List Rec
  pub is : input ≡ sent ++ f.left
  pub puts_are : puts ≡ (carried sent ++ feeder_tail f.done f.refused) ∷ []
  pub all : f.done ≡ true → f.refused ≡ false → f.left ≡ []

-- one message more at the only out
abbrev pushed : List (List Message) → Message → List (List Message)
pushed puts m = gave (Gave 0 m) puts

-- a feeder by its parts
abbrev pub feeder : List Rec → Bool → Bool → Feeder
feeder left refused done = record { left = left; refused = refused; done = done }

pushed-open : (puts : List (List Message)) (ms : List Message) (m : Message) → puts ≡ (ms ++ []) ∷ [] → pushed puts m ≡ (ms ++ m ∷ []) ∷ []
pushed-open puts ms m e = ap (λ p. pushed p m) e ∙ ap (λ l. l ∷ []) (append_assoc ms [] (m ∷ []))

-- it puts a record
HasFed-item : (input left left' : List Rec) (x : Rec) (puts : List (List Message)) → left ≡ x ∷ left' → HasFed input (feeder left false false) puts
    → HasFed input (feeder left' false false) (pushed puts (Item x))
HasFed-item input left left' x puts e fed = record {
  sent = fed.sent ++ x ∷ [];
  is = fed.is ∙ ap (λ l. fed.sent ++ l) e ∙ sym (append_assoc fed.sent (x ∷ []) left');
  puts_are = pushed-open puts (carried fed.sent) (Item x) fed.puts_are ∙ ap (λ l. l ∷ []) (sym (carried-append fed.sent (x ∷ [])) ∙ sym (append-nil (carried (fed.sent ++ x ∷ []))));
  all = λ done whole. absurd (both_ways false refl done);
}

-- it puts Eos, or Abort
HasFed-eos : (input left : List Rec) (puts : List (List Message)) → left ≡ [] → HasFed input (feeder left false false) puts → HasFed input (feeder left false true) (pushed puts Eos)
HasFed-eos input left puts e fed = record {
  sent = fed.sent;
  is = fed.is;
  puts_are = pushed-open puts (carried fed.sent) Eos fed.puts_are;
  all = λ done whole. e;
}

HasFed-abort : (input left : List Rec) (puts : List (List Message)) → HasFed input (feeder left true false) puts → HasFed input (feeder left true true) (pushed puts Abort)
HasFed-abort input left puts fed = record {
  sent = fed.sent;
  is = fed.is;
  puts_are = pushed-open puts (carried fed.sent) Abort fed.puts_are;
  all = λ done whole. absurd (both_ways true whole refl);
}

-- it is refused memory
HasFed-refused : (input left : List Rec) (refused : Bool) (puts : List (List Message)) → HasFed input (feeder left refused false) puts → HasFed input (feeder left true false) puts
HasFed-refused input left refused puts fed = record {
  sent = fed.sent;
  is = fed.is;
  puts_are = fed.puts_are;
  all = λ done whole. absurd (both_ways false refl done);
}

-- a feeder whose flags are known
HasFed-known : (input : List Rec) (f : Feeder) (refused done : Bool) (puts : List (List Message)) → f.refused ≡ refused → f.done ≡ done → HasFed input f puts
    → HasFed input (feeder f.left refused done) puts
HasFed-known input f refused done puts r d fed = subst (λ g. HasFed input g puts) (ap₂ (feeder f.left) r d) fed

HasFed-from : (input : List Rec) (f g : Feeder) (k : ℕ) (m : Message) (puts : List (List Message)) → k ≡ 0 → f ≡ g → HasFed input f (pushed puts m) → HasFed input g (gave (Gave k m) puts)
HasFed-from input f g k m puts port e fed = subst (λ j. HasFed input g (gave (Gave j m) puts)) (sym port) (subst (λ h. HasFed input h (pushed puts m)) e fed)

-- one step of a feeder
HasFed-more : (input : List Rec) (f : Feeder) (act : Act) (g : Feeder) (puts : List (List Message)) → HasFed input f puts → FeederStep f act g → HasFed input g (gave act puts)
HasFed-more input f (Took k m) g puts fed step = absurd step
HasFed-more input f (Gave k (Item x)) g puts fed step =
    HasFed-from input (feeder g.left false false) g k (Item x) puts step.0 (ap₂ (feeder g.left) (sym step.2.0) (sym step.1) ∙ sym step.2.2)
    (HasFed-item input f.left g.left x puts step.2.1 (HasFed-known input f false false puts step.2.0 step.1 fed))
HasFed-more input f (Gave k Mark) g puts fed step = absurd step.2
HasFed-more input f (Gave k (Pick w)) g puts fed step = absurd step.2
HasFed-more input f (Gave k Eos) g puts fed step =
    HasFed-from input (feeder f.left false true) g k Eos puts step.0 (ap (λ r. feeder f.left r true) (sym step.2.0) ∙ sym step.2.2)
    (HasFed-eos input f.left puts step.2.1 (HasFed-known input f false false puts step.2.0 step.1 fed))
HasFed-more input f (Gave k Abort) g puts fed step =
    HasFed-from input (feeder f.left true true) g k Abort puts step.0 (ap (λ r. feeder f.left r true) (sym step.2.0) ∙ sym step.2.1)
    (HasFed-abort input f.left puts (HasFed-known input f true false puts step.2.0 step.1 fed))
HasFed-more input f Refused g puts fed step =
    subst (λ h. HasFed input h puts) (ap (feeder f.left true) (sym step.0) ∙ sym step.2)
    (HasFed-refused input f.left f.refused puts (HasFed-known input f f.refused false puts refl step.0 fed))
HasFed-more input f Idle g puts fed step = subst (λ h. HasFed input h puts) (sym step) fed
HasFed-more input f Told g puts fed step = absurd step
HasFed-more input f (Handed x) g puts fed step = absurd step

-- what a fed list goes on to
GoesOn-tail : (sent left : List Rec) (done refused : Bool) → (done ≡ true → refused ≡ false → left ≡ []) → GoesOn (unaborted (carried sent ++ feeder_tail done refused)) (carried (sent ++ left))
GoesOn-tail sent left false refused all = record {
  inner = IsOpen-carried (sent ++ left);
  more = closed (carried left);
  is = ap closed (carried-append sent left) ∙ append_assoc (carried sent) (carried left) (Eos ∷ [])
      ∙ ap (λ l. l ++ closed (carried left)) (sym (ap unaborted (append-nil (carried sent)) ∙ unaborted-carried sent));
}
GoesOn-tail sent left true false all = record {
  inner = IsOpen-carried (sent ++ left);
  more = [];
  is = ap (λ l. closed (carried (sent ++ l))) (all refl refl) ∙ ap (λ l. closed (carried l)) (append-nil sent)
      ∙ sym (append-nil (unaborted (closed (carried sent))) ∙ unaborted-append (carried sent) (Eos ∷ []) ∙ ap (λ l. l ++ Eos ∷ []) (unaborted-carried sent));
}
GoesOn-tail sent left true true all = record {
  inner = IsOpen-carried (sent ++ left);
  more = closed (carried left);
  is = ap closed (carried-append sent left) ∙ append_assoc (carried sent) (carried left) (Eos ∷ [])
      ∙ ap (λ l. l ++ closed (carried left)) (sym (unaborted-append (carried sent) (Abort ∷ []) ∙ append-nil (unaborted (carried sent)) ∙ unaborted-carried sent));
}

module _ (input : List Rec) where
  HasFed-leads : (acts : List Act) (f : Feeder) → Leads FeederStep (opening_feeder input) acts f → HasFed input f (gave_on ([] ∷ []) acts)
  HasFed-leads [] f l = subst (λ g. HasFed input g ([] ∷ [])) (sym l) (record { sent = []; is = refl; puts_are = refl; all = λ done whole. absurd (both_ways false refl done) })
  HasFed-leads (act ∷ acts) f l = HasFed-more input l.0 act f (gave_on ([] ∷ []) acts) (HasFed-leads acts l.0 l.1) l.2

  -- a run of the feeder
  pub HasFed-run : (f : Feeder) (gots puts : List (List Message)) → HasRun FeederStep (opening_feeder input) 0 1 f gots puts → HasFed input f puts
  HasFed-run f gots puts run = subst (HasFed input f) (sym run.gives) (HasFed-leads run.acts f run.leads)

  -- what it put goes on to the whole input
  pub GoesOn-feeder : (f : Feeder) (gots puts : List (List Message)) → HasRun FeederStep (opening_feeder input) 0 1 f gots puts
      → GoesOn (unaborted (at puts 0)) (carried input)
  GoesOn-feeder f gots puts run = of (HasFed-run f gots puts run)
    where
      of : HasFed input f puts → GoesOn (unaborted (at puts 0)) (carried input)
      of fed = subst (λ p. GoesOn (unaborted (at p 0)) (carried input)) (sym fed.puts_are)
          (subst (λ xs. GoesOn (unaborted (carried fed.sent ++ feeder_tail f.done f.refused)) (carried xs)) (sym fed.is) (GoesOn-tail fed.sent f.left f.done f.refused fed.all))

  -- once it has ended and wasn't refused memory, it put all of it
  pub at-feeder_done : (f : Feeder) (gots puts : List (List Message)) → HasRun FeederStep (opening_feeder input) 0 1 f gots puts
      → f.done ≡ true → f.refused ≡ false → at puts 0 ≡ closed (carried input)
  at-feeder_done f gots puts run done whole = of (HasFed-run f gots puts run)
    where
      of : HasFed input f puts → at puts 0 ≡ closed (carried input)
      of fed = ap (λ p. at p 0) fed.puts_are ∙ ap₂ (λ d r. carried fed.sent ++ feeder_tail d r) done whole
          ∙ ap (λ xs. closed (carried xs)) (sym (fed.is ∙ ap (λ l. fed.sent ++ l) (fed.all done whole) ∙ append-nil fed.sent))

  -- what an open feeder put is open
  pub IsOpen-feeder : (f : Feeder) (put : List Message) → HasRun FeederStep (opening_feeder input) 0 1 f [] (put ∷ []) → f.done ≡ false → IsOpen put
  IsOpen-feeder f put run undone = of (HasFed-run f [] (put ∷ []) run)
    where
      of : HasFed input f (put ∷ []) → IsOpen put
      of fed = subst IsOpen (sym (append-nil (carried fed.sent)) ∙ ap (λ d. carried fed.sent ++ feeder_tail d f.refused) (sym undone) ∙ ap (λ p. at p 0) (sym fed.puts_are)) (IsOpen-carried fed.sent)
