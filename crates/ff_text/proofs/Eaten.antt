-- What is eaten from its first token on, and behind a part.
use Rattle.std.proofs.Common.{◌≡◌, ℕ, zero, suc, ◌-◌, Bool, true, false, List, [], ◌∷◌, ◌++◌, Some, Result, Ok, Err, refl, sym, ap, subst, ◌∙◌, arith}
use Rattle.ff_ops.specs.Table.{row_named}
use Rattle.ff_text.specs.declared.fault.ReadFault.{ReadFault}
use Rattle.ff_text.specs.declared.fault.ReadFault.TheVariants.{Text, TooLong, NoMemory}
use Rattle.ff_text.specs.declared.form.Form.{Form}
use Rattle.ff_text.specs.Tokens.{Word, PlacedToken}
use Rattle.ff_text.specs.Grammar.{form_named}
use Rattle.ff_text.specs.Names.{Context, net_named}
use Rattle.ff_text.specs.Wants.{Want, Network, Parts, rest_of, begin_word, expand, pushed, then_walk, walk}
use Rattle.ff_text.specs.Reading.{IsEaten, IsAnother}
use Rattle.ff_text.proofs.Parts.{left}

-- behind a token that is taken
eaten-front : {A : Type 0} (c : Context) (r : Result A ReadFault) (w : Want) (us : List Want) (s : PlacedToken) (mid new : List PlacedToken) → expand c w s.token ≡ Ok us
    → IsEaten c us r mid new → IsEaten c (w ∷ []) r (s ∷ mid) new
eaten-front c (Ok x) w us s mid new e h = λ ws. ap (λ q. then_walk s.at (walk c mid) (pushed q ws)) e ∙ h ws
eaten-front c (Err (Text at kind)) w us s mid new e h = λ ws. ap (λ q. then_walk s.at (walk c mid) (pushed q ws)) e ∙ h ws
eaten-front c (Err TooLong) w us s mid new e h = h
eaten-front c (Err NoMemory) w us s mid new e h = tt

expand-form : (c : Context) (name : List ℕ) (f : Form) (room : ℕ) → form_named name ≡ Some f → (room ≡ 0 → ⊥) → expand c (Network room) (Word name) ≡ Ok (rest_of (room - 1) f)
expand-form c name f zero named some = absurd (some refl)
expand-form c name f (suc room) named some =
    let less : room ≡ suc room - 1 = omega arith in
    ap (λ g. begin_word g (row_named name) (net_named c.names name) (suc room)) named ∙ ap (λ n. Ok (rest_of n f)) less

-- a form from its word on
pub eaten-form : {A : Type 0} (c : Context) (r : Result A ReadFault) (old mid new : List PlacedToken) (at : ℕ) (name : List ℕ) (f : Form) (room : ℕ) → old ≡ record { token = Word name; at = at } ∷ mid
    → form_named name ≡ Some f → (room ≡ 0 → ⊥) → IsEaten c (rest_of (room - 1) f) r mid new → IsEaten c (Network room ∷ []) r old new
eaten-form c r old mid new at name f room front named some h =
    subst (λ spots. IsEaten c (Network room ∷ []) r spots new) (sym front)
    (eaten-front c r (Network room) (rest_of (room - 1) f) (record { token = Word name; at = at }) mid new (expand-form c name f room named some) h)

-- a part and what follows it
pub eaten-another : (c : Context) (room : ℕ) (more : Bool) (old new : List PlacedToken) → IsAnother c room (Ok more) old new → (ws : List Want) → walk c old (Parts room ∷ ws) ≡ walk c new (left more room ++ ws)
eaten-another c room true old new h ws = h ws
eaten-another c room false old new h ws = h ws

pub eaten-no_other : (A : Type 0) (c : Context) (room : ℕ) (fault : ReadFault) (us : List Want) (old mid new : List PlacedToken) → ((ws : List Want) → walk c old (us ++ ws) ≡ walk c mid (Parts room ∷ ws))
    → IsAnother c room (Err fault) mid new → IsEaten {A = A} c us (Err fault) old new
eaten-no_other A c room (Text at kind) us old mid new before h = λ ws. before ws ∙ h ws
eaten-no_other A c room TooLong us old mid new before h = h
eaten-no_other A c room NoMemory us old mid new before h = tt
