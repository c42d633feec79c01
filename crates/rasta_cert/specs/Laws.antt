-- Laws on the texts of certificates.
use Rattle.std.specs.Prelude.{◌≡◌, ℕ, List}
use Rattle.std.specs.List.{concat}
use Rattle.rasta_pcap.specs.declared.fault.Fault.{Fault}
use Rattle.rasta_cert.specs.Certificate.{AreScripts, IsCertificate, Scripts, certificate_text}
use Rattle.rasta_cert.specs.Refusals.{IsRefusedText, lines_of}

-- no two scripts share a text
abbrev pub TextsDiffer : Type 0
TextsDiffer = (c d : Scripts) → AreScripts c → AreScripts d → certificate_text c ≡ certificate_text d → c ≡ d

-- the text of scripts is their lines, one after the other
abbrev pub TextIsItsLines : Type 0
TextIsItsLines = (c : Scripts) → certificate_text c ≡ concat (lines_of c)

-- no text is refused by two faults
abbrev pub OneRefusal : Type 0
OneRefusal = (text : List ℕ) (f g : Fault) → IsRefusedText text f → IsRefusedText text g → f ≡ g

-- no certificate's text is refused
abbrev pub CertificatesAreNotRefused : Type 0
CertificatesAreNotRefused = (c : Scripts) (f : Fault) → IsCertificate c → ¬ (IsRefusedText (certificate_text c) f)
