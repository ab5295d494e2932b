-- One lemma for all arms, named by `using`, was tried: the search did not take it.
use Rattle.osdp.proofs.Kind.normalise.Goals as goal

pub returns-in-Led : goal.returns-in-Led
returns-in-Led c = rw c.in-Led.is c.normalise.ensures

pub returns-in-Out : goal.returns-in-Out
returns-in-Out c = rw c.in-Out.is c.normalise-in-Out.ensures

pub returns-in-Text : goal.returns-in-Text
returns-in-Text c = rw c.in-Text.is c.normalise-in-Text.ensures

pub returns-in-BioRead : goal.returns-in-BioRead
returns-in-BioRead c = rw c.in-BioRead.is c.normalise-in-BioRead.ensures

pub returns-in-BioMatch : goal.returns-in-BioMatch
returns-in-BioMatch c = rw c.in-BioMatch.is c.normalise-in-BioMatch.ensures

pub returns-in-FileTransfer : goal.returns-in-FileTransfer
returns-in-FileTransfer c = rw c.in-FileTransfer.is c.normalise-in-FileTransfer.ensures

pub returns-in-Mfg : goal.returns-in-Mfg
returns-in-Mfg c = rw c.in-Mfg.is c.normalise-in-Mfg.ensures

pub returns-in-Raw : goal.returns-in-Raw
returns-in-Raw c = rw c.in-Raw.is c.normalise-in-Raw.ensures

pub returns-in-Fmt : goal.returns-in-Fmt
returns-in-Fmt c = rw c.in-Fmt.is c.normalise-in-Fmt.ensures

pub returns-in-BioReadR : goal.returns-in-BioReadR
returns-in-BioReadR c = rw c.in-BioReadR.is c.normalise-in-BioReadR.ensures

pub returns-in-BioMatchR : goal.returns-in-BioMatchR
returns-in-BioMatchR c = rw c.in-BioMatchR.is c.normalise-in-BioMatchR.ensures

pub returns-in-Nak : goal.returns-in-Nak
returns-in-Nak c = rw c.in-Nak.is c.normalise-in-Nak.ensures

pub returns-in-Xrd : goal.returns-in-Xrd
returns-in-Xrd c = rw c.in-Xrd.is c.normalise-in-Xrd.ensures

pub returns-in-Keypad : goal.returns-in-Keypad
returns-in-Keypad c = rw c.in-Keypad.is c.normalise-in-Keypad.ensures

pub returns-in-ComSet : goal.returns-in-ComSet
returns-in-ComSet c = rw c.in-ComSet.is c.normalise-in-ComSet.ensures

pub returns-in-Com : goal.returns-in-Com
returns-in-Com c = rw c.in-Com.is c.normalise-in-Com.ensures

pub returns-in-PdId : goal.returns-in-PdId
returns-in-PdId c = rw c.in-PdId.is c.normalise-in-PdId.ensures

pub returns-in-LStatR : goal.returns-in-LStatR
returns-in-LStatR c = rw c.in-LStatR.is c.normalise-in-LStatR.ensures

pub returns-in-AcuRxSize : goal.returns-in-AcuRxSize
returns-in-AcuRxSize c = rw c.in-AcuRxSize.is c.normalise-in-AcuRxSize.ensures

pub returns-in-KeepActive : goal.returns-in-KeepActive
returns-in-KeepActive c = rw c.in-KeepActive.is c.normalise-in-KeepActive.ensures
