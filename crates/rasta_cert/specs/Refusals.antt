-- Which texts are refused as certificates, and at which line.
use Rattle.std.specs.Prelude.{◌≡◌, ◌≢◌, ◌⊎◌, ℕ, ◌+◌, ◌==◌, List, [], ◌∷◌, ◌++◌, map, length, codes, if◌then◌else◌}
use Rattle.std.specs.List.{concat}
use Rattle.rasta_pcap.specs.declared.fault.Fault.{Fault}
use Rattle.rasta_pcap.specs.Fault.{fault_at, too_many_entries, wrong_syntax}
use Rattle.rasta_cert.specs.Certificate.{AreScripts, IsCertificate, Scripts, certificate_text, entry_line, is_few, line}

-- the first line up to and with its end; all of the text where no line has an end
abbrev pub first_line : List ℕ → List ℕ
first_line [] = []
first_line (b ∷ bs) = if b == 10 then b ∷ [] else b ∷ first_line bs

-- the lines of scripts
abbrev pub lines_of : Scripts → List (List ℕ)
lines_of c =
    line (codes "rasta-certificate 1") ∷ line (codes "client") ∷ (map entry_line c.client
    ++ (line (codes "server") ∷ (map entry_line c.server ++ (line (codes "end") ∷ []))))

-- some scripts begin with these lines
pub record BeginsScripts (lines : List (List ℕ)) : Type 0 where
  pub scripts : Scripts
  pub entries : AreScripts scripts
  pub more : List (List ℕ)
  pub lines_are : lines_of scripts ≡ lines ++ more

-- some scripts with few entries do
abbrev pub BeginsCertificate : List (List ℕ) → Type 0
BeginsCertificate lines = (b : BeginsScripts lines) × is_few b.scripts

-- what is wrong with the last of these lines: that there are too many entries, or its syntax
abbrev pub IsFaultNumber : List (List ℕ) → ℕ → Type 0
IsFaultNumber lines number =
    ((number ≡ too_many_entries) × BeginsScripts lines) ⊎ ((number ≡ wrong_syntax) × ¬ (BeginsScripts lines))

-- The text is no certificate's, and it is refused at the first line with which no certificate begins.
pub record IsRefusedText (text : List ℕ) (fault : Fault) : Type 0 where
  pub no_certificate : (c : Scripts) → IsCertificate c → text ≢ certificate_text c
  pub front : List (List ℕ)
  pub rest : List ℕ
  pub text_is : text ≡ concat front ++ rest
  pub begins : BeginsCertificate front
  pub stops : ¬ (BeginsCertificate (front ++ first_line rest ∷ []))
  pub number : IsFaultNumber (front ++ first_line rest ∷ []) fault.number
  pub fault_is : fault ≡ fault_at fault.number (length front + 1)
